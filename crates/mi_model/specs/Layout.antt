-- The layout of a region: where its system cells, its buffers and the dictionary stand, as offsets in bytes.
use Rattle.std.specs.Prelude.{ℕ, ◌+◌, ◌*◌}

-- DP: the end of the dictionary
abbrev pub dp_cell : ℕ
dp_cell = 0

abbrev pub base_cell : ℕ
base_cell = 8

-- STATE: not 0 while the text interpreter compiles
abbrev pub state_cell : ℕ
state_cell = 16

-- >IN: where parsing goes on in the source
abbrev pub in_cell : ℕ
in_cell = 24

-- the source: its address, its length, and its number, which is -1 inside EVALUATE and else 0
abbrev pub source_address_cell : ℕ
source_address_cell = 32

abbrev pub source_length_cell : ℕ
source_length_cell = 40

abbrev pub source_number_cell : ℕ
source_number_cell = 48

-- CURRENT: the wordlist that takes new words
abbrev pub current_cell : ℕ
current_cell = 56

-- LATEST: the newest header
abbrev pub latest_cell : ℕ
latest_cell = 64

-- LEAVES: the chain of the branches that leave the innermost loop, 1 where there is no loop
abbrev pub leaves_cell : ℕ
leaves_cell = 72

-- HLD: the first character of the number that is being formatted
abbrev pub hld_cell : ℕ
hld_cell = 88

-- ENTRY: the token of the entry word, 0 where there is none
abbrev pub entry_cell : ℕ
entry_cell = 96

-- the search order: how many wordlists it has, and its 16 cells, the first searched first
abbrev pub order_count_cell : ℕ
order_count_cell = 104

abbrev pub order_cell : (i : ℕ) → ℕ
order_cell i = 112 + 8 * i

-- the FORTH wordlist: its head, and behind that the link to an older wordlist, as in each wordlist
abbrev pub forth_wordlist : ℕ
forth_wordlist = 240

-- VOC: the newest wordlist
abbrev pub voc_cell : ℕ
voc_cell = 256

-- the three cells of the interpreter loop, and the cell behind an entry word
abbrev pub interpreter_loop : ℕ
interpreter_loop = 264

abbrev pub after_entry : ℕ
after_entry = 288

-- which string buffer is the next: 0 for the first
abbrev pub string_turn_cell : ℕ
string_turn_cell = 296

abbrev pub line_buffer : ℕ
line_buffer = 512

-- the end of the buffer in which numbers are formatted, which is filled downwards, and the buffer of WORD behind it
abbrev pub hold_end : ℕ
hold_end = 2048

abbrev pub word_buffer : ℕ
word_buffer = 2048

abbrev pub first_string_buffer : ℕ
first_string_buffer = 2304

abbrev pub second_string_buffer : ℕ
second_string_buffer = 2816

-- where the dictionary begins, and what a header has
abbrev pub dictionary : ℕ
dictionary = 4096
