-- Start, locks, clear, reports, lines of the archive and the logbook.
pub mod Panel
pub mod Plan
