mod Beginning
mod Tops
