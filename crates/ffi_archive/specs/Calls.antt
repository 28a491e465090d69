-- What the calls return, and every lent cell after them.
-- Assumes nothing.
use Rattle.archive_walk.specs.declared.Offer.TheVariants.{Member, Done}
use Rattle.archive_walk.specs.declared.Offer.{Offer}
use Rattle.link.specs.declared.cause.Refusal.{Refusal}
use Rattle.std.specs.Prelude.{ℕ, ◌+◌, min, Bool, cond, List, ltb, length, Result, Ok, Err, true, false}
use Rattle.archive_index.specs.Archives.{Archives}
use Rattle.archive_walk.specs.Look.{table_of}
use Rattle.archive_walk.specs.Walk.{Start, start_of, Step, next_of}
use Rattle.shadowed_members.specs.Shadowed as Shadowed
use Rattle.shadowed_members.specs.Shadowed.{shadowed_of}
use Rattle.object_requirement.specs.Matches.{matches_of}
use Rattle.untaken_member.specs.Untaken as Untaken
use Rattle.untaken_member.specs.Untaken.{would_of}
use Rattle.ffi_cells.specs.declared.header.Reply.{Reply}
use Rattle.ffi_cells.specs.Header.{is_short, link_in, result_of, refusal_of, refused_of, Told, told, answer_of}
use Rattle.ffi_archive.specs.Cells.{walk_in, walk_out}

-- ---- answers

abbrev pub begun_reply : Result ℕ Refusal → Reply
begun_reply (Ok entries) = result_of entries 0 0 0
begun_reply (Err r) = refused_of r

-- the number of the member's archive and 1, its offset, the entry that queued it; the passes
abbrev pub offered_reply : Result Offer Refusal → Reply
offered_reply (Ok (Member archive offset entry passes)) = result_of (min (archive + 1) 0xffffffffffffffff) offset entry passes
offered_reply (Ok (Done passes)) = result_of 0 0 0 passes
offered_reply (Err r) = refused_of r

abbrev pub admitted_reply : Result Bool Refusal → Reply
admitted_reply (Ok true) = result_of 1 0 0 0
admitted_reply (Ok false) = result_of 0 0 0 0
admitted_reply (Err r) = refused_of r

-- ---- the calls

pub record WalkLeft : Type 0 where
  pub told : Told
  pub walk : List ℕ
  pub rows : List ℕ

abbrev pub walk_left : Told → List ℕ → List ℕ → WalkLeft
walk_left t c rows = record { told = t; walk = c; rows = rows }

-- seven cells for a walk
unfoldable pub no_walk : List ℕ → Bool
no_walk c = ltb (length c) 7

abbrev pub start_told : List ℕ → List ℕ → Start → WalkLeft
start_told h c s = walk_left (answer_of h (begun_reply s.started.begun)) (walk_out c s.started.walk) s.cells

unfoldable pub start_fit : List ℕ → List ℕ → ℕ → Archives → List ℕ → WalkLeft
start_fit h c key index rows = start_told h c (start_of key index rows)

unfoldable pub start_call : List ℕ → List ℕ → ℕ → Archives → List ℕ → WalkLeft
start_call h c key index rows =
    cond (is_short h) (walk_left (told 1 h) c rows)
    (cond (no_walk c) (walk_left (answer_of h (refusal_of 1 0)) c rows) (start_fit h c key index rows))

abbrev pub next_told : List ℕ → List ℕ → Step → WalkLeft
next_told h c s = walk_left (answer_of h (offered_reply s.moved.offer)) (walk_out c s.moved.walk) s.cells

unfoldable pub next_fit : List ℕ → List ℕ → Archives → List ℕ → List ℕ → List ℕ → List ℕ → WalkLeft
next_fit h c index rows b n s = next_told h c (next_of index rows (walk_in c) (table_of (link_in h) b n s))

unfoldable pub next_call : List ℕ → List ℕ → Archives → List ℕ → List ℕ → List ℕ → List ℕ → WalkLeft
next_call h c index rows b n s =
    cond (is_short h) (walk_left (told 1 h) c rows)
    (cond (no_walk c) (walk_left (answer_of h (refusal_of 1 0)) c rows) (next_fit h c index rows b n s))

pub record ShadowedLeft : Type 0 where
  pub told : Told
  pub cells : List ℕ

abbrev pub shadowed_left : Told → List ℕ → ShadowedLeft
shadowed_left t cells = record { told = t; cells = cells }

-- how many entries are told, as a start says how many there are
abbrev pub shadowed_told : List ℕ → Shadowed.Left → ShadowedLeft
shadowed_told h x = shadowed_left (answer_of h (begun_reply x.answer)) x.cells

unfoldable pub shadowed_fit : List ℕ → List ℕ → List ℕ → List ℕ → List ℕ → List ℕ → List ℕ → List ℕ → ShadowedLeft
shadowed_fit h c index rows b n s cells = shadowed_told h (shadowed_of index rows (walk_in c) (table_of (link_in h) b n s) cells)

unfoldable pub shadowed_call : List ℕ → List ℕ → List ℕ → List ℕ → List ℕ → List ℕ → List ℕ → List ℕ → ShadowedLeft
shadowed_call h c index rows b n s cells =
    cond (is_short h) (shadowed_left (told 1 h) cells)
    (cond (no_walk c) (shadowed_left (answer_of h (refusal_of 1 0)) cells) (shadowed_fit h c index rows b n s cells))

unfoldable pub matches_call : List ℕ → List ℕ → List ℕ → List ℕ → ℕ → List ℕ → List ℕ → List ℕ → List ℕ → Told
matches_call h c index rows entry headers entries contents image =
    cond (is_short h) (told 1 h)
    (cond (no_walk c) (answer_of h (refusal_of 1 0)) (answer_of h (admitted_reply (matches_of (link_in h) headers entries contents image index rows (walk_in c) entry))))

-- ---- what a member that was not taken would have defined

pub record WouldLeft : Type 0 where
  pub told : Told
  pub cells : List ℕ

abbrev pub would_left : Told → List ℕ → WouldLeft
would_left t cells = record { told = t; cells = cells }

-- how many symbols are told
abbrev pub would_told : List ℕ → Untaken.Left → WouldLeft
would_told h x = would_left (answer_of h (begun_reply x.answer)) x.cells

unfoldable pub would_call : List ℕ → List ℕ → List ℕ → List ℕ → List ℕ → List ℕ → List ℕ → List ℕ → List ℕ → WouldLeft
would_call h b n s headers entries contents image cells =
    cond (is_short h) (would_left (told 1 h) cells) (would_told h (would_of headers entries contents image (table_of (link_in h) b n s) cells))
