-- Symbols with their pressed spellings, and what the laws say of them, computed by the definitions. `Row` has the tests, and
-- `Marks` has rows that say which components are compared. `tools/rows.py` writes `Listed` and `Generated`.
mod Row
mod Listed
mod Generated
mod Laws
mod Marks
mod Fits
