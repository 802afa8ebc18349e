mod Limited
mod OfHome
mod Numbered
