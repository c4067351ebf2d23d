mod Told
mod Each
