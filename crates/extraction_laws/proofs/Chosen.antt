-- What a pass of the walk queues and admission then lets in, against the gABI's extraction.
-- Assumes nothing.
use Rattle.std.specs.Prelude.{ℕ, ◌<◌, ◌≡◌, Bool, ◌&&◌, eqb}
use Rattle.std.proofs.Math.Path.{sym}
use Rattle.std.proofs.Common.{ap, ◌∙◌}
use Rattle.std.proofs.Math.Bool.{true, false, cond}
use mathlib.Core.List.{List}
use borrow.Author.Tests.{eqb-true}
use Rattle.byte_slices.specs.Bytes.{same}
use Rattle.byte_slices.specs.Proof.Ways.{same_true}
use Rattle.gabi.specs.Archive.{Named}
use Rattle.archive_walk.specs.Look.{Table, tied_name}
use Rattle.archive_index.specs.Archives.{Archives}
use Rattle.archive_walk.specs.Names.{required_of}
use Rattle.archive_laws.specs.Members.{Same, among}
use Rattle.archive_laws.proofs.Counts.{any_out, among_same}
use Rattle.archive_laws.specs.Runs.{Run}
use Rattle.archive_laws.specs.ByKey.{in_index, queue_in, Pass}
use Rattle.object_requirement.specs.Matches.{has_global_symbol}
use Rattle.extraction_laws.specs.Some.{In}
use Rattle.extraction_laws.proofs.Some.{and_left, and_right, and-cond, both_ways, and_in, some_out, some_same}
use Rattle.extraction_laws.specs.Member.{admitting, member_of}
use Rattle.extraction_laws.proofs.Member.{object-admits}
use Rattle.extraction_laws.specs.Taken.{lists, taken_in}

-- a call that made a pass over t (every such call of a walk is one: archive_laws, `Walked-by`), whatever its entries' keys and names; entry e's member was
-- not offered before, and is this object, whose global and weak definitions the index lists; admission is asked by a link of that profile
module _ (gabi : Bool) (s : Archives) (keys : ℕ → ℕ) (named : ℕ → List ℕ) (c : ℕ) (t : Table) (r r' : Run) (pass : Pass s keys named c t r r') (e : ℕ) (low : e < c) (new : among keys e r.offers ≡ false)
    (headers entries file : List ℕ) (listed : (x : List ℕ) → in_index keys named c e x ≡ lists (member_of headers entries file) x) where
  abbrev member : List Named
  member = member_of headers entries file

  -- the names required of it
  required-is : (x : List ℕ) → required_of s.bytes r'.cells r'.walk e x ≡ tied_name t x && lists member x
  required-is x = pass.names e low new x ∙ rw (listed x) (and-cond (tied_name t x) (lists member x))

  -- admission
  pub admitted : has_global_symbol gabi headers entries file (required_of s.bytes r'.cells r'.walk e) ≡ taken_in gabi (tied_name t) member
  admitted =
      object-admits gabi (required_of s.bytes r'.cells r'.walk e) headers entries file
      ∙ some_same (λ d. admitting gabi d.symbol && required_of s.bytes r'.cells r'.walk e d.name) (λ d. admitting gabi d.symbol && (tied_name t d.name && lists member d.name)) member
      (λ d. rw (required-is d.name))

  -- a member that would be admitted is queued by the pass
  pub queued : taken_in gabi (tied_name t) member ≡ true → among keys e (queue_in r') ≡ true
  unfolding in_index
  queued h = go (some_out (λ d. admitting gabi d.symbol && (tied_name t d.name && lists member d.name)) member h)
    where
      tied : (x : List ℕ) (j : ℕ) → j < c → tied_name t x ≡ true → cond (eqb (keys j) (keys e)) (same (named j) x) false ≡ true → among keys e (queue_in r') ≡ true
      tied x j g u w =
          let b = rw (and-cond (eqb (keys j) (keys e)) (same (named j) x)) at w in
          let o : Same keys j e = eqb-true (keys j) (keys e) (and_left (eqb (keys j) (keys e)) (same (named j) x) b) in
          let n : named j ≡ x = same_true (named j) x (and_right (eqb (keys j) (keys e)) (same (named j) x) b) in
          sym (among_same keys (queue_in r') j e o) ∙ pass.all j g (ap (tied_name t) n ∙ u)

      go : ((d : Named) × In d member × (admitting gabi d.symbol && (tied_name t d.name && lists member d.name) ≡ true)) → among keys e (queue_in r') ≡ true
      go (d, i, q) =
          let rest = and_right (admitting gabi d.symbol) (tied_name t d.name && lists member d.name) q in
          let u : tied_name t d.name ≡ true = and_left (tied_name t d.name) (lists member d.name) rest in
          by u (any_out (λ j. cond (eqb (keys j) (keys e)) (same (named j) d.name) false) c (listed d.name ∙ and_right (tied_name t d.name) (lists member d.name) rest))
        where
          by : tied_name t d.name ≡ true → ((j : ℕ) × (j < c) × (cond (eqb (keys j) (keys e)) (same (named j) d.name) false ≡ true)) → among keys e (queue_in r') ≡ true
          by u (j, g, w) = tied d.name j g u w

  -- the walk's choice and admission
  abbrev pub chosen : Bool
  chosen = among keys e (queue_in r') && has_global_symbol gabi headers entries file (required_of s.bytes r'.cells r'.walk e)

  pub chosen_is : chosen ≡ taken_in gabi (tied_name t) member
  chosen_is =
      both_ways chosen (taken_in gabi (tied_name t) member)
      (λ h. sym admitted ∙ and_right (among keys e (queue_in r')) (has_global_symbol gabi headers entries file (required_of s.bytes r'.cells r'.walk e)) h)
      (λ h. and_in (among keys e (queue_in r')) (has_global_symbol gabi headers entries file (required_of s.bytes r'.cells r'.walk e)) (queued h) (admitted ∙ h))
