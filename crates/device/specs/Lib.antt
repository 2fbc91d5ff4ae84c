-- One command over lent stores.
pub mod Plan
