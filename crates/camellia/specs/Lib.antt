pub mod Numbers
pub mod Sbox
pub mod Functions
pub mod Rounds
pub mod Keys
pub mod Cipher
pub mod Laws
