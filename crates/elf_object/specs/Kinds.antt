-- Document 01, "Objects": "Section kinds", by its numbers.
-- Assumes nothing.
use Rattle.std.specs.Prelude.{ℕ}

abbrev pub null : ℕ
null = 0

abbrev pub program : ℕ
program = 1

abbrev pub uninitialized : ℕ
uninitialized = 2

abbrev pub symbol_table : ℕ
symbol_table = 3

abbrev pub string_table : ℕ
string_table = 4

abbrev pub rel : ℕ
rel = 5

abbrev pub rela : ℕ
rela = 6

abbrev pub group : ℕ
group = 7

abbrev pub hash : ℕ
hash = 8

abbrev pub gnu_hash : ℕ
gnu_hash = 9

abbrev pub dynamic_symbols : ℕ
dynamic_symbols = 10

-- `.eh_frame_hdr`
abbrev pub frame_header : ℕ
frame_header = 11

abbrev pub dynamic : ℕ
dynamic = 12

abbrev pub unknown : ℕ
unknown = 13

abbrev pub note : ℕ
note = 14

-- how many there are
abbrev pub kind_count : ℕ
kind_count = 15
