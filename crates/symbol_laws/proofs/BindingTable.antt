-- Theorems over specs/BindingTable.antt.
-- Assumes nothing.
use Rattle.std.specs.Prelude.{ℕ, ◌+◌, ◌*◌, ◌/◌, ◌%◌, ◌<◌, ◌≡◌, T, get_or}
use Rattle.std.proofs.Common.{sym, ap, ◌∙◌, arith, eqb→eq}
use Rattle.upcoming_symbol.specs.Judge.{shown_of, hidden_of, judge_of}
use Rattle.symbol_laws.proofs.Table.{every, at}
use Rattle.symbol_laws.specs.BindingTable.{bound, entry, formula, right, table}

module _ (judges : ℕ → ℕ → ℕ) (tested : T (every (right judges) 0 table)) where
  as-entry : (b v : ℕ) → b < 16 → v < 4 → entry b v ≡ judges b v
  as-entry b v g h =
      let k = b * 4 + v in
      let d : k / 4 ≡ b = omega arith in
      let m : k % 4 ≡ v = omega arith in
      eqb→eq (get_or table k 0) (judges (k / 4) (k % 4)) (at (right judges) table tested k (omega arith)) ∙ ap (λ (x : ℕ). judges x (k % 4)) d ∙ ap (judges b) m

-- 2026-03: "Every pair of codes judges as before": what the contract of every add cites, `judgeOf`, is the old table's entry
pub judged-before : (b v : ℕ) → b < 16 → v < 4 → judge_of b v ≡ entry b v
unfolding judge_of shown_of hidden_of
judged-before b v g h = sym (as-entry judge_of tt b v g h)

-- and the request's formula
pub judged-by-formula : (b v : ℕ) → b < 16 → v < 4 → judge_of b v ≡ formula b v
unfolding formula bound
judged-by-formula b v g h = judged-before b v g h ∙ as-entry formula tt b v g h
