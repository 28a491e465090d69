-- Worked examples of document 01 and of the reading of it, computed from the contract's definition.
-- Assumes nothing.
use Rattle.link.specs.declared.cause.Refusal.{Refusal}
use Rattle.gc_sections.specs.declared.Dropped.{Dropped}
use Rattle.std.specs.Prelude.{ℕ, zero, suc, ◌+◌, ◌≡◌, List, [], ◌∷◌, ◌++◌, replicate, Result, None, Ok, Err}
use Rattle.link.specs.declared.Link.{Link}
use Rattle.link.specs.Judge as Link
use Rattle.link.specs.Counts.{no_names, with_names, with_symbols, with_sections, with_lists, with_slots}
use Rattle.sections.specs.Rows.{state_at, built_state, program, section_cells, reserved_cells}
use Rattle.symbol.specs.Row as Symbol
use Rattle.gc_sections.specs.Run.{Left, Lists, lists_of, run_of, dropped}

-- counts: one name of no bytes; so many symbols, sections and list cells
abbrev pub counts : ℕ → ℕ → ℕ → Link
counts symbols sections lists = with_slots (with_lists (with_sections (with_symbols (with_names (no_names 0 1) 1 0) symbols) sections) lists) sections

-- the null symbol, and one that lies in section s: local, `Section`
abbrev pub null : List ℕ
null = 1 ∷ 0 ∷ 0 ∷ 0 ∷ 0 ∷ 0 ∷ 0 ∷ 0 ∷ []

abbrev pub in_section : ℕ → List ℕ
in_section s = 1 ∷ 0 ∷ 3 ∷ 0 ∷ 0 ∷ 2 ∷ s ∷ 0 ∷ []

-- a built program section: read or not, with one relocation at a place of the lists
abbrev pub section : ℕ → ℕ → List ℕ
section read first = section_cells built_state 0 program 0 read first 1 0

abbrev pub reserved : List ℕ
reserved = reserved_cells

abbrev pub lent : List ℕ → List ℕ → Lists
lent lists marks = lists_of [] (replicate {A = ℕ} 9 0) lists marks

-- a collection without entry symbol: what it is given; its answer, and the states of the sections and of the symbols after it
pub record Example : Type 0 where
  pub link : Link
  pub lists : Lists
  pub symbols : List ℕ
  pub sections : List ℕ
  pub work : List ℕ
  pub answer : Result Dropped Refusal
  pub section_states : List ℕ
  pub symbol_states : List ℕ

abbrev pub collected : Example → Left
collected e = run_of e.link e.lists e.symbols e.sections None e.work

abbrev pub states_from : (List ℕ → ℕ → ℕ) → List ℕ → ℕ → ℕ → List ℕ
states_from state rows i zero = []
states_from state rows i (suc n) = state rows i ∷ states_from state rows (i + 1) n

abbrev pub Right : Example → Type 0
Right e =
    ((collected e).answer ≡ e.answer) × (states_from state_at (collected e).sections 0 e.link.sections ≡ e.section_states)
    × (states_from Symbol.state_at (collected e).symbols 0 e.link.symbols ≡ e.symbol_states)

-- P12: two unrooted sections naming each other are both dropped, their symbols with them
abbrev pub p12 : Example
p12 =
    record {
      link = counts 3 2 2;
      lists = lent (2 ∷ 1 ∷ []) (0 ∷ 0 ∷ 0 ∷ []);
      symbols = null ++ (in_section 0 ++ in_section 1);
      sections = section 1 0 ++ (section 1 1 ++ (1 ∷ 2 ∷ []));
      work = 9 ∷ 9 ∷ 9 ∷ 9 ∷ [];
      answer = Ok (dropped 2 2);
      section_states = 3 ∷ 3 ∷ [];
      symbol_states = 1 ∷ 2 ∷ 2 ∷ [];
    }

-- V16: three marks for four symbols
abbrev pub short_marks : Example
short_marks =
    record {
      link = counts 4 0 0;
      lists = lent [] (1 ∷ 1 ∷ 1 ∷ []);
      symbols = null ++ (null ++ (null ++ null));
      sections = [];
      work = [];
      answer = Err (Link.refused 1 3);
      section_states = [];
      symbol_states = 1 ∷ 1 ∷ 1 ∷ 1 ∷ [];
    }

-- V16: a marked symbol in section 70,000 and one in the reserved section 2: the lower gives 21
abbrev pub two_unbuilt : Example
two_unbuilt =
    record {
      link = counts 3 3 0;
      lists = lent [] (0 ∷ 1 ∷ 1 ∷ []);
      symbols = null ++ (in_section 70000 ++ in_section 2);
      sections = reserved ++ (reserved ++ (reserved ++ (0 ∷ 0 ∷ 0 ∷ [])));
      work = replicate {A = ℕ} 6 9;
      answer = Err (Link.refused 21 2);
      section_states = 1 ∷ 1 ∷ 1 ∷ [];
      symbol_states = 1 ∷ 1 ∷ 1 ∷ [];
    }

-- V17: sections 0 and 1 name each other, section 2 can't be read and names section 3: 0 and 1 go, 2 and 3 stay
abbrev pub unreadable : Example
unreadable =
    record {
      link = counts 5 4 4;
      lists = lent (2 ∷ 1 ∷ 4 ∷ 4 ∷ []) (0 ∷ 0 ∷ 0 ∷ 0 ∷ 0 ∷ []);
      symbols = null ++ (in_section 0 ++ (in_section 1 ++ (in_section 2 ++ in_section 3)));
      sections = section 1 0 ++ (section 1 1 ++ (section 0 2 ++ (section 1 3 ++ (1 ∷ 2 ∷ 3 ∷ 4 ∷ []))));
      work = replicate {A = ℕ} 8 9;
      answer = Ok (dropped 2 2);
      section_states = 3 ∷ 3 ∷ 2 ∷ 2 ∷ [];
      symbol_states = 1 ∷ 2 ∷ 2 ∷ 1 ∷ 1 ∷ [];
    }

abbrev pub All : List Example → Type 0
All [] = Unit {0}
All (e ∷ es) = Right e × All es
