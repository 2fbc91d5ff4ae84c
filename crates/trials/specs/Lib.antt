-- One command over stores of which the first lines are lent.
pub mod Lend
