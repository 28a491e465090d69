-- Lists of adds in all their orders, as rows of one list: the add sheet's first four lines; hidden, absolute and "not loaded".
-- Assumes nothing.
use Rattle.std.specs.Prelude.{ℕ, ◌≡◌, Bool, true, false, List, [], ◌∷◌, pos, length, map, replicate, flat_map, Result, None, Ok, Err}
use Rattle.link.specs.declared.cause.Refusal.{Refusal}
use Rattle.link.specs.Judge.{none}
use Rattle.symbol.specs.declared.Symbol.{Symbol}
use Rattle.symbol.specs.declared.SymbolType.{SymbolType}
use Rattle.symbol.specs.declared.SymbolType.TheVariants as Ty
use Rattle.symbol.specs.declared.SymbolVisibility.{SymbolVisibility}
use Rattle.symbol.specs.declared.SymbolVisibility.TheVariants.{Global}
use Rattle.symbol.specs.declared.SymbolValue.{SymbolValue}
use Rattle.symbol.specs.declared.SymbolValue.TheVariants as Val
use Rattle.upcoming_symbol.specs.declared.UpcomingSymbol.{UpcomingSymbol}
use Rattle.upcoming_symbol.specs.declared.UpcomingSymbol.TheVariants.{Elf}
use Rattle.symbols.specs.New.{new_of}
use Rattle.symbols.specs.Lookup.{get_global_of}
use Rattle.symbol_laws.specs.History.{State, opened}
use Rattle.order_laws.specs.Order.{names_issued, left, after}

-- ---- the orders of a list

abbrev pub insertions : {A : Type 0} → A → List A → List (List A)
insertions x [] = (x ∷ []) ∷ []
insertions x (y ∷ ys) = (x ∷ y ∷ ys) ∷ map (λ l. y ∷ l) (insertions x ys)

abbrev pub orders : {A : Type 0} → List A → List (List A)
orders [] = [] ∷ []
orders (x ∷ xs) = flat_map (insertions x) (orders xs)

-- ---- the link

-- the names mute and clear have ids 1 and 2
abbrev pub mute : List ℕ
mute = 109 ∷ 117 ∷ 116 ∷ 101 ∷ []

abbrev pub clear : List ℕ
clear = 99 ∷ 108 ∷ 101 ∷ 97 ∷ 114 ∷ []

-- three symbol rows: the null symbol's, mute's and clear's
unfoldable pub start : Bool → State
start profile =
    names_issued (mute ∷ clear ∷ [])
    (opened (new_of 0 profile (replicate {A = ℕ} 16 0) (replicate {A = ℕ} 27 0) (replicate {A = ℕ} 24 0) (replicate {A = ℕ} 90 0)))

-- "Sections 1 to 9 have ids 1 to 9"; section 10 isn't loaded
abbrev pub sections : List ℕ
sections = 0 ∷ 3 ∷ 4 ∷ 5 ∷ 6 ∷ 7 ∷ 8 ∷ 9 ∷ 10 ∷ 11 ∷ 1 ∷ []

-- a line of a sheet: name, binding, visibility, type, section, value
abbrev pub line : ℕ → ℕ → ℕ → ℕ → ℕ → ℕ → UpcomingSymbol
line n b v k s x = Elf (record { binding = b; visibility = v; kind = k; section = s; value = x; size = 0 }) (record { 0 = n }) None

-- ---- the list

abbrev pub Content : Type 0
Content = SymbolType × SymbolVisibility × SymbolValue

-- profile, adds, and mute's content after each of their orders
pub record Case : Type 0 where
  pub profile : Bool
  pub adds : List UpcomingSymbol
  pub contents : List Content

-- the same after each of n orders
abbrev pub case : Bool → List UpcomingSymbol → ℕ → Content → Case
case profile adds n c = record { profile = profile; adds = adds; contents = replicate n c }

abbrev pub seen : Result Symbol Refusal → List Content
seen (Ok x) = (x.kind, x.visibility, x.value) ∷ []
seen (Err r) = []

abbrev pub mute_in : State → List Content
mute_in s = seen (get_global_of s.link s.names s.symbols (record { 0 = 1 }))

-- the refusal, its position, and mute then
pub record Outcome : Type 0 where
  pub refusal : Refusal
  pub position : ℕ
  pub found : List Content

abbrev pub outcome : Bool → List ℕ → List UpcomingSymbol → Outcome
outcome profile ids us =
    record {
      refusal = (left (start profile) sections ids us).refusal;
      position = (left (start profile) sections ids us).position;
      found = mute_in (after (start profile) sections ids us);
    }

-- all adds accepted
abbrev pub whole : ℕ → Content → Outcome
whole n c = record { refusal = none; position = n; found = c ∷ [] }

abbrev pub Right : Case → Type 0
Right c = map (outcome c.profile (replicate {A = ℕ} (length c.adds) 7)) (orders c.adds) ≡ map (whole (length c.adds)) c.contents

abbrev pub All : List Case → Type 0
All [] = Unit {0}
All (c ∷ cs) = Right c × All cs

abbrev pub old : Bool
old = false

abbrev pub gabi : Bool
gabi = true

abbrev pub shown : SymbolVisibility
shown = Global false false

abbrev pub hidden : SymbolVisibility
hidden = Global false true

-- mute weak and strong, clear weak and undefined
abbrev pub weak_mute : UpcomingSymbol
weak_mute = line 1 2 0 2 1 16

abbrev pub strong_mute : UpcomingSymbol
strong_mute = line 1 1 0 2 2 0

abbrev pub sheet : List UpcomingSymbol
sheet = weak_mute ∷ strong_mute ∷ line 1 1 0 2 0 0 ∷ line 2 2 0 0 0 0 ∷ []

-- "rel 2:0"
abbrev pub at_two : SymbolValue
at_two = Val.SectionRelative (record { 0 = 2 }) (pos 0)

abbrev pub two_weak : Bool → Case
two_weak profile =
    record {
      profile = profile;
      adds = weak_mute ∷ line 1 2 0 2 3 8 ∷ [];
      contents =
          (Ty.Function, Global true false, Val.SectionRelative (record { 0 = 1 }) (pos 16))
          ∷ (Ty.Function, Global true false, Val.SectionRelative (record { 0 = 3 }) (pos 8)) ∷ [];
    }

abbrev pub cases : List Case
cases =
    -- the sheet's first four lines, in all 24 orders
    case old sheet 24 (Ty.Function, shown, at_two)
    ∷ case gabi sheet 24 (Ty.Function, shown, at_two)
    -- a weak definition is hidden, the strong one isn't
    ∷ case old (line 1 2 2 2 1 16 ∷ strong_mute ∷ []) 2 (Ty.Function, shown, at_two)
    ∷ case gabi (line 1 2 2 2 1 16 ∷ strong_mute ∷ []) 2 (Ty.Function, hidden, at_two)
    -- an absolute value, and a section that isn't loaded, are strong definitions too
    ∷ case old (weak_mute ∷ line 1 1 0 1 0xfff1 7 ∷ []) 2 (Ty.Object, shown, Val.Absolute 7)
    ∷ case gabi (weak_mute ∷ line 1 1 0 1 0xfff1 7 ∷ []) 2 (Ty.Object, shown, Val.Absolute 7)
    ∷ case old (weak_mute ∷ line 1 1 0 1 10 0 ∷ []) 2 (Ty.Object, shown, Val.SectionNotLoaded)
    ∷ case gabi (weak_mute ∷ line 1 1 0 1 10 0 ∷ []) 2 (Ty.Object, shown, Val.SectionNotLoaded)
    -- of a name without a strong definition nothing is claimed: the first weak one wins
    ∷ two_weak old
    ∷ two_weak gabi
    ∷ []
