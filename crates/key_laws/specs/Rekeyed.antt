-- Names under another key of the hash: the same ids are found, and a new name leaves them alike.
-- Assumes nothing.
use Rattle.std.specs.Prelude.{ℕ, ◌+◌, ◌*◌, ◌<◌, ◌≡◌, List, ◌≢◌, length, get_or}
use Rattle.link.specs.declared.Link.{Link}
use Rattle.link.specs.Counts.{with_key}
use Rattle.interner.specs.Names.{Store, store_of}
use Rattle.interner_laws.specs.Good.{Good, name_rows_in, cell}

-- a link with another key
abbrev pub keyed : ℕ → Link → Link
keyed k l = with_key l k

-- the same bytes and counts, with the cells n of names
abbrev pub rekeyed : ℕ → List ℕ → Store → Store
rekeyed k n s = store_of s.bytes n (keyed k s.link)

-- n are the names of s under the key k: they differ at most in the links of the hash chains (cell 2 of a row) and behind the rows, where the chains
-- begin
pub record Rekeyed (k : ℕ) (s : Store) (n : List ℕ) : Type 0 where
  pub long : length n ≡ length s.names
  pub cells : (i f : ℕ) → i < name_rows_in s → f < 8 → f ≢ 2 → get_or n (i * 8 + f) 0 ≡ cell s i f
  pub good : Good s
  pub other : Good (rekeyed k n s)

-- t is s under the key k
pub record Moved {S : Type 0} (store : S → Store) (under : List ℕ → S → S) (k : ℕ) (s t : S) : Type 0 where
  pub names : List ℕ
  pub is : t ≡ under names s
  pub alike : Rekeyed k (store s) names
