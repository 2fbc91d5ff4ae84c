-- Laws of the factor: what the division gives, and what the factor keeps of the exact fraction.
pub mod Division
pub mod Ranges
pub mod Laws
