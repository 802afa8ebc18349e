mod Cut
mod Digits
