-- What the contracts of `field` cite: the arithmetic modulo p.
pub mod Modular
