-- Lemmas.
mod Entries
