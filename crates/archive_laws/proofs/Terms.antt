-- What is shown of archives, statements only, each proved by citing the file where its proof stands: that an index is read as its format says, what walks over
-- it offer and require, whatever table each of their calls is lent, and that the key of the hash shows in no answer.
-- Assumes nothing.
use Rattle.std.specs.Prelude.{ℕ, suc, cond, eqb, ◌+◌, ◌*◌, ◌/◌, ◌<◌, ◌≤◌, ◌≡◌, ◌≢◌, true, false, ◌&&◌, List, [], ◌∷◌, ◌++◌, get_or, length}
use Rattle.gabi.specs.ArchiveIndex.{Entry, AllFit}
use Rattle.archive_index.specs.Index.{count_of, offset_of, names_at, name_of, cut_of}
use Rattle.archive_index.specs.Archives.{Archives, one, index_at, count_at, entries_from, entries_in, name_in, key_in, member, member_of}
use Rattle.archive_index.specs.Rows.{descend, rows_of}
use Rattle.archive_index.specs.Open.{judge_index, judge_rows, judge_of}
use Rattle.link.specs.Judge.{refused}
use Rattle.link.specs.Proof.Judged.{first}
use Rattle.archive_laws.specs.AcceptedStart.{Whole}
use Rattle.archive_laws.proofs.Bits.{half}
use Rattle.archive_laws.proofs.One as One
use Rattle.archive_laws.proofs.EveryIndex as EveryIndex
use Rattle.archive_laws.specs.Joined.{archives_joined}
use Rattle.archive_laws.proofs.Joined as Joined
use Rattle.archive_laws.proofs.Twice as Twice
use Rattle.archive_laws.specs.Rounds.{among, members, Offered}
use Rattle.archive_walk.specs.declared.Walk.{Walk}
use Rattle.archive_walk.specs.Look.{Table, undefined_name, tied_name}
use Rattle.archive_walk.specs.Names.{required_of}
use Rattle.archive_walk.specs.Walk.{Start, begun_number, begun_said, fresh_walk, start_of, next_of}
use Rattle.archive_laws.specs.Members.{fresh}
use Rattle.archive_laws.specs.Runs.{Run, step_run, history, start_run, seen}
use Rattle.archive_laws.specs.ByKey as ByKey
use Rattle.archive_laws.specs.ByKey.{tied_in}
use Rattle.archive_laws.specs.Walked.{Walked}
use Rattle.archive_laws.specs.StartRead.{bytes_of, start_said, StartRow}
use Rattle.archive_laws.specs.Pass.{Rows}
use Rattle.archive_laws.specs.Steps.{Fine}
use Rattle.archive_laws.specs.PassList.{without, first_seen, keys_from, keys_of, tied_members, offered, IsOver, Over}
use Rattle.archive_laws.specs.Profiles.{strong_name}
use Rattle.archive_laws.specs.OtherKey.{Agree}
use Rattle.archive_laws.proofs.Format as Format
use Rattle.archive_laws.proofs.StartRead as StartRead
use Rattle.archive_laws.proofs.Depth as Depth
use Rattle.archive_laws.proofs.AcceptedStart as AcceptedStart
use Rattle.archive_laws.proofs.KeyedWalk as KeyedWalk
use Rattle.archive_laws.proofs.PassList as PassList
use Rattle.archive_laws.proofs.Again as Again
use Rattle.archive_laws.proofs.Profiles as Profiles
use Rattle.archive_laws.proofs.AnyKey as AnyKey

-- ---- an index: the bytes that the System V format has for a list of entries (gabi/specs/ArchiveIndex.antt), with anything behind them

module _ (es : List Entry) (rest : List ℕ) where
  abbrev bytes : List ℕ
  bytes = bytes_of es rest

  pub count-read : length es < 4294967296 → count_of bytes ≡ length es
  count-read = Format.count-read es rest

-- the entry e behind those of a
module _ (a b : List Entry) (e : Entry) (rest : List ℕ) (fit : AllFit (a ++ e ∷ b)) where
  abbrev all : List Entry
  all = a ++ e ∷ b

  pub offset_read : offset_of (bytes_of all rest) (length a) ≡ e.offset
  offset_read = Format.offset_read a b e rest fit

  pub name-read : name_of (bytes_of all rest) (length all) (length a) ≡ e.name
  name-read = Format.name-read a b e rest fit

-- ---- the call `start` on these bytes

module _ (es : List Entry) (rest : List ℕ) (many : length es < 4294967296) (fit : AllFit es) (key : ℕ) (cells : List ℕ) where
  abbrev started : Start
  started = start_of key (one (bytes_of es rest)) cells

  pub start-answer : begun_said started.started.begun ≡ start_said (length es) (length cells / 8)
  start-answer = StartRead.start-answer es rest many fit key cells

  -- a refused one leaves every cell
  pub start_left : begun_number started.started.begun ≢ 0 → started.cells ≡ cells
  start_left = StartRead.start_left es rest many fit key cells

  -- else the walk is at its beginning: no pass, nothing queued, nothing offered
  pub start-walk : begun_number started.started.begun ≡ 0 → started.started.walk ≡ fresh_walk key (length es) (length (bytes_of es rest))
  start-walk = StartRead.start-walk es rest many fit key cells

-- and each entry has its row
module _ (a b : List Entry) (e : Entry) (rest : List ℕ) (many : length (a ++ e ∷ b) < 4294967296) (fit : AllFit (a ++ e ∷ b)) (key : ℕ) (cells : List ℕ) where
  abbrev index : List ℕ
  index = bytes_of (a ++ e ∷ b) rest

  pub start-row : begun_number (start_of key (one index) cells).started.begun ≡ 0 → StartRow index (start_of key (one index) cells).cells (length a) e
  start-row = StartRead.start-row a b e rest many fit key cells

-- ---- whole walks: a start that isn't refused, then any calls, each over any table

module _ (key : ℕ) (s : Archives) (l : List ℕ) (begun : begun_number (start_of key s l).started.begun ≡ 0) where
  -- "at most m + 1 passes, each pass offers exactly the members not yet offered that the index ties to a name undefined at its start", and more (Walked)
  pub walked : (ts : List Table) → Walked s ts (history s ts (start_run key s l))
  walked = AcceptedStart.walked key s l begun

  -- the call over t makes a pass, those over us none, and then the pass is over
  module _ (ts : List Table) (t : Table) (us : List Table) where
    abbrev run_before : Run
    run_before = history s ts (start_run key s l)

    abbrev run_after : Run
    run_after = history s us (step_run s t run_before)

    -- then it offered, behind what was offered before, the members that entries tie to a name that ties in t, first-seen, those not offered before
    pub pass-offers : (step_run s t run_before).walk.passes ≡ run_before.walk.passes + 1 → run_after.walk.passes ≡ (step_run s t run_before).walk.passes → Over key s l begun run_after
        → offered s run_after ≡ offered s run_before ++ without (offered s run_before) (first_seen (tied_members s t))
    pass-offers = PassList.pass-offers key s l begun ts t us

-- of each of several indexes: the call over t ends the walk, and a name of entry i of index j ties in t; then its member was offered
module _ (a : Archives) where
  pub every-index : (ts : List Table) (r : Run) → Walked a ts r → (t : Table) → r.walk.done ≡ false → (step_run a t r).walk.done ≡ true → (j i : ℕ) → j < length a.ends → i < count_at a j
      → tied_name t (name_of (index_at a j) (count_at a j) i) ≡ true → among a (entries_from a j 0 + i) (step_run a t r).offers ≡ true
  every-index = EveryIndex.every-index a

  -- and by archive and offset, of bytes: an entry that was offered is of that archive and has that offset, so no other archive's member stands for it
  pub every-member : ((i : ℕ) → get_or a.bytes i 0 < 256) → (ts : List Table) (r : Run) → Walked a ts r → (t : Table) → r.walk.done ≡ false → (step_run a t r).walk.done ≡ true
      → (j i : ℕ) → j < length a.ends → i < count_at a j → tied_name t (name_of (index_at a j) (count_at a j) i) ≡ true
      → Offered a (member j (offset_of (index_at a j) i)) (step_run a t r).offers
  every-member = EveryIndex.every-member a

  -- index j of byte lists one behind the other is the j-th of them: none reads what stands behind it
  pub index-joined : (xs : List (List ℕ)) (j : ℕ) → index_at (archives_joined xs) j ≡ get_or xs j []
  index-joined = Joined.index-joined

  -- of bytes, one key is one member
  pub one-member : ((i : ℕ) → get_or a.bytes i 0 < 256) → (e f : ℕ) → key_in a e ≡ key_in a f → member_of a e ≡ member_of a f
  one-member = EveryIndex.one-member a

-- an archive that is given twice has twice the members
pub given-twice : (s : List ℕ) → ((i : ℕ) → get_or s i 0 < 256)
    → members (archives_joined (s ∷ s ∷ [])) (entries_in (archives_joined (s ∷ s ∷ []))) ≡ 2 * members (one s) (count_of s)
given-twice = Twice.given-twice

-- of whatever the entries are the entries of: entry k's member is known by the key `keys k`, its name is `named k`
module _ (s : Archives) (keys : ℕ → ℕ) (named : ℕ → List ℕ) (c : ℕ) where
  -- from any run at its beginning whose rows say so
  pub walked_by : (key : ℕ) (start : Run) → Fine key s keys named c start → seen start ≡ fresh → (ts : List Table) → ByKey.Walked s keys named c ts (history s ts start)
  walked_by key = KeyedWalk.walked_by key s keys named c

  -- from any run on of which `Walked` holds
  module _ (start : Run) (promised : (ts : List Table) → ByKey.Walked s keys named c ts (history s ts start)) (ts : List Table) (t : Table) (us : List Table) where
    abbrev before : Run
    before = history s ts start

    abbrev after : Run
    after = history s us (step_run s t before)

    pub pass-keys : (step_run s t before).walk.passes ≡ before.walk.passes + 1 → after.walk.passes ≡ (step_run s t before).walk.passes → IsOver s after
        → keys_of keys after.offers ≡ keys_of keys before.offers ++ without (keys_of keys before.offers) (first_seen (keys_from keys (tied_in named t) c 0))
    pass-keys = PassList.pass-keys s keys named c start promised ts t us

  -- a walk of an earlier call used again, or one with any counts: the rows keep names, members and chains
  pub again : (key : ℕ) (l : List ℕ) (w : Walk) (t : Table) → w.key ≡ key → w.entries ≡ c → Rows key s.bytes keys named c l → Rows key s.bytes keys named c (next_of s l w t).cells
  again key = Again.again key s keys named c

-- ---- the names that tie a member, by the profile of the table's link: undefined; "undefined and strong"

module _ (t : Table) (x : List ℕ) where
  pub tied-old : t.link.gabi ≡ false → tied_name t x ≡ undefined_name t x
  tied-old = Profiles.tied-old t x

  pub tied-gabi : t.link.gabi ≡ true → tied_name t x ≡ undefined_name t x && strong_name t x
  tied-gabi = Profiles.tied-gabi t x

-- ---- for the time that a start takes: the search for an entry's member

-- indexes whose names are whole: in their rows the search for a member is at its end after one entry more than keys have bits (36; of one archive 32),
-- however the offsets are chosen
pub shallow : (a : Archives) (l : List ℕ) → entries_in a * 8 ≤ length l → Whole a (length a.ends) 0 → (bits : ℕ) → ((e : ℕ) → half bits (key_in a e) ≡ 0) → 0 < entries_in a
    → (o d n : ℕ) → half bits o ≡ 0 → bits < n → descend (rows_of a l) o d 0 o n ≡ descend (rows_of a l) o d 0 o (suc bits)
shallow = Depth.shallow

-- so of bytes 37 steps suffice, in one archive 33
pub shallow-several : (a : Archives) → ((i : ℕ) → get_or a.bytes i 0 < 256) → length a.ends ≤ 16 → (l : List ℕ) → entries_in a * 8 ≤ length l → Whole a (length a.ends) 0 → 0 < entries_in a
    → (o d n : ℕ) → o < 0x1000000000 → 37 ≤ n → descend (rows_of a l) o d 0 o n ≡ descend (rows_of a l) o d 0 o 37
shallow-several = Depth.shallow-several

pub shallow-one : (s : List ℕ) → ((i : ℕ) → get_or s i 0 < 256) → (l : List ℕ) → count_of s * 8 ≤ length l → count_of s ≤ cut_of s (names_at (count_of s)) (count_of s) 0 → 0 < count_of s
    → (o d n : ℕ) → o < 0x100000000 → 33 ≤ n → descend (rows_of (one s) l) o d 0 o n ≡ descend (rows_of (one s) l) o d 0 o 33
shallow-one = Depth.shallow-one

-- ---- one archive alone

module _ (s : List ℕ) where
  -- one archive alone: the same refusals in the same order, and an entry's member is archive 0's at its offset
  pub judge-one : (rows : ℕ) → judge_of (one s) rows ≡ cond (eqb (length s) 0) (refused 20 0) (first (judge_index s 0) (judge_rows rows (count_of s)))
  judge-one = One.judge-one s

  pub member-one : (e : ℕ) → member_of (one s) e ≡ member 0 (offset_of s e)
  member-one = One.member-one s

  pub name-one : (e : ℕ) → e < count_of s → name_in (one s) e ≡ name_of s (count_of s) e
  name-one = One.name-one s

-- ---- walks under two keys of the hash, over the same index, cells and tables

module _ (s : Archives) (key key' : ℕ) (l : List ℕ) where
  -- the start's answer and its cells don't show the key
  pub start-any-key : ((start_of key' s l).cells ≡ (start_of key s l).cells) × ((start_of key' s l).started.begun ≡ (start_of key s l).started.begun)
  start-any-key = AnyKey.start-any-key s key key' l

  -- nor does an answer after any calls over any tables: members, passes, refusals, the marks of required names
  pub any-key : (ts : List Table) → Agree s (history s ts (start_run key s l)) (history s ts (start_run key' s l))
  any-key = AnyKey.any-key s key key' l

  -- nor does admission: under either key the same names are required of an entry's member
  pub required-any-key : begun_number (start_of key s l).started.begun ≡ 0 → (ts : List Table) (e : ℕ) → e < entries_in s → (x : List ℕ)
      → required_of s.bytes (history s ts (start_run key' s l)).cells (history s ts (start_run key' s l)).walk e x
      ≡ required_of s.bytes (history s ts (start_run key s l)).cells (history s ts (start_run key s l)).walk e x
  required-any-key = AnyKey.required-any-key s key key' l
