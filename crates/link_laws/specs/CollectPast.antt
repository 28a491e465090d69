-- That a collection leaves the counts, and every row past them.
-- Assumes nothing.
use Rattle.std.specs.Prelude.{ℕ, ◌*◌, ◌<◌, ◌≤◌, ◌≡◌, List, get_or, length}
use Rattle.link.specs.declared.Link.{Link}
use Rattle.gc_sections.specs.Run.{Left}

-- the counts are the link's; rows past them stand as they stood
pub record Past (l : Link) (symbols sections : List ℕ) (r : Left) : Type 0 where
  pub link : r.link ≡ l
  pub symbols-past : (q : ℕ) → l.symbols * 8 ≤ q → get_or r.symbols q 0 ≡ get_or symbols q 0
  pub sections-past : (q : ℕ) → l.sections * 8 ≤ q → q < l.slots * 8 → get_or r.sections q 0 ≡ get_or sections q 0
  pub symbols-long : length r.symbols ≡ length symbols
  pub sections-long : length r.sections ≡ length sections
