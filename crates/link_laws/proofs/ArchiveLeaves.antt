-- What a refusal leaves of a walk and of its cells.
-- Assumes nothing.
use Rattle.std.specs.Prelude.{ℕ, ◌/◌, ◌≡◌, refl, List, ◌≢◌, eqb, ltb, length}
use Rattle.std.proofs.Common.{ap, ◌∙◌}
use Rattle.std.proofs.lemmas.Bool.{eqb-false}
use Rattle.byte_slices.specs.Proof.Ways.{pick}
use Rattle.archive_index.specs.Archives.{Archives, last_end}
use Rattle.archive_index.specs.Rows.{no_heads}
use Rattle.archive_index.specs.Open as Open
use Rattle.archive_index.specs.Open.{Opened, judge_of, open_of}
use Rattle.archive_walk.specs.declared.Walk.{Walk}
use Rattle.archive_walk.specs.Walk.{Started}
use Rattle.archive_walk.specs.Look.{Table, judge_table}
use Rattle.archive_walk.specs.Walk.{Step, begun_number, begun_of, start_of, number_of, removed_of, make_of, search_of, pass_of, walk_fits, go_of, next_of}
use Rattle.elf_object.specs.Rows.{rows_in}
use Rattle.untaken_member.specs.Untaken as Untaken
use Rattle.untaken_member.specs.Untaken.{loaded_of, told_of, roomed_of, head_of, would_of}
use Rattle.shadowed_members.specs.Shadowed as Shadowed
use Rattle.shadowed_members.specs.Shadowed.{fits_index, shadowed_of}
use Rattle.link_laws.proofs.NeverRemoved.{offered-number}

-- ---- a refused call for the next member leaves the walk

pub walk-leaves : (archives : Archives) (cells : List ℕ) (w : Walk) (t : Table) → number_of (next_of archives cells w t).moved.offer ≢ 0
    → ((next_of archives cells w t).cells ≡ cells) × ((next_of archives cells w t).moved.walk ≡ w)
unfolding next_of go_of pass_of search_of make_of
walk-leaves archives cells w t =
    pick P w.done _ _ (λ a u. (refl, refl))
    (λ a.
    pick P (walk_fits archives cells w) _ _
    (λ b.
    pick P (ltb w.offered w.queued) _ _ (λ c u. absurd (u (offered-number archives cells w)))
    (λ c.
    pick P (eqb (judge_table t).number 0) _ _
    (λ d.
    pick P (ltb (removed_of archives.bytes cells t w.entries 0) w.entries) _ _ (λ e u. (refl, refl)) (λ e u. absurd (u (offered-number archives _ _))))
    (λ d u. (refl, refl))))
    (λ b u. (refl, refl)))
  where
    P : Step → Type 0
    P x = number_of x.moved.offer ≢ 0 → (x.cells ≡ cells) × (x.moved.walk ≡ w)

-- ---- a refused look at what it passed by leaves the cells

pub shadowed-leaves : (index rows : List ℕ) (w : Walk) (t : Table) (cells : List ℕ) → begun_number (shadowed_of index rows w t cells).answer ≢ 0
    → (shadowed_of index rows w t cells).cells ≡ cells
unfolding shadowed_of
shadowed-leaves index rows w t cells =
    pick P (eqb (judge_table t).number 0) _ _
    (λ a. pick P (fits_index index rows w) _ _ (λ b. pick P (ltb (length cells) w.entries) _ _ (λ d u. refl) (λ d u. absurd (u refl))) (λ b u. refl))
    (λ a u. refl)
  where
    P : Shadowed.Left → Type 0
    P x = begun_number x.answer ≢ 0 → x.cells ≡ cells

-- ---- and one at what a member would have defined

pub would-leaves : (headers entries contents file : List ℕ) (t : Table) (cells : List ℕ) → begun_number (would_of headers entries contents file t cells).answer ≢ 0
    → (would_of headers entries contents file t cells).cells ≡ cells
unfolding would_of roomed_of told_of
would-leaves headers entries contents file t cells =
    pick P (eqb (head_of headers entries contents file t).number 0) _ _
    (λ a. pick P (ltb (length cells / 2) (rows_in (loaded_of headers entries file).entries)) _ _ (λ b u. refl) (λ b u. absurd (u refl)))
    (λ a u. refl)
  where
    P : Untaken.Left → Type 0
    P x = begun_number x.answer ≢ 0 → x.cells ≡ cells

-- ---- a refused start leaves the cells lent to it

-- what refused indexes leave
pub record Unopened (cells : List ℕ) (x : Open.Left) : Type 0 where
  pub same : x.cells ≡ cells
  pub no-entry : x.opened.entries ≡ 0

open-leaves : (archives : Archives) (cells : List ℕ) → (open_of archives cells).opened.refusal.number ≢ 0 → Unopened cells (open_of archives cells)
unfolding open_of
open-leaves archives cells =
    pick (λ (x : Open.Left). x.opened.refusal.number ≢ 0 → Unopened cells x) (eqb (judge_of archives (length cells / 8)).number 0) _ _ (λ a u. absurd (u refl))
    (λ a u. record { same = refl; no-entry = refl })

begun-refused : (key n : ℕ) (o : Opened) → begun_number (begun_of key n o).begun ≢ 0 → o.refusal.number ≢ 0
unfolding begun_of
begun-refused key n o =
    pick (λ (x : Started). begun_number x.begun ≢ 0 → o.refusal.number ≢ 0) (eqb o.refusal.number 0) _ _ (λ a u. absurd (u refl)) (λ a u. eqb-false _ _ a)

no-chains : (cells : List ℕ) → no_heads 0 cells ≡ cells
unfolding no_heads
no-chains cells = refl

pub start-leaves : (key : ℕ) (archives : Archives) (cells : List ℕ) → begun_number (start_of key archives cells).started.begun ≢ 0 → (start_of key archives cells).cells ≡ cells
unfolding start_of
start-leaves key archives cells u =
    let o = open-leaves archives cells (begun-refused key (last_end archives) (open_of archives cells).opened u) in
    ap (λ (c : ℕ). no_heads c (open_of archives cells).cells) o.no-entry ∙ no-chains (open_of archives cells).cells ∙ o.same
