-- What the theory asks of a language: its tests mean what they say, and its reader keeps the rules of 'Binding' and 'When a call is declined'.
-- Assumes nothing.
use Rattle.std.specs.Prelude.{◌≡◌, ◌⊎◌, true, List, [], ◌∷◌, ℕ, ◌≤◌, length}
use Rattle.language.specs.Limits.{text_bytes, text_parts}
use Rattle.model.specs.Lists.{All, member}
use Rattle.model.specs.ListLaws.{Equality}
use Rattle.model.specs.Language.{Language, rejected, parts}

-- Dependencies come first: those of each form stand before it, in this list or in the one given.
abbrev pub Ordered : (L : Language) → List L.Form → List L.Form → Type 0
Ordered L pre [] = Unit {0}
Ordered L pre (f ∷ fs) = ((d : L.Form) → L.dependency d f ≡ true → member L.same d pre ≡ true) × Ordered L (f ∷ pre) fs

abbrev pub Among : (L : Language) → List L.Form → List L.Form → Type 0
Among L fs gs = (f : L.Form) → member L.same f fs ≡ true → member L.same f gs ≡ true

-- The test of sameness is equality, and a form lies at or below another by a chain of dependencies, or none.
pub record Tests (L : Language) : Type 0 where
  pub equality : Equality L.same
  pub reach-self : (f : L.Form) → L.reach f f ≡ true
  pub reach-dependency : (d f : L.Form) → L.dependency d f ≡ true → L.reach d f ≡ true
  pub reach-through : (d f g : L.Form) → L.reach d f ≡ true → L.reach f g ≡ true → L.reach d g ≡ true
  pub reach-only : (g f : L.Form) → L.reach g f ≡ true → (g ≡ f) ⊎ ((d : L.Form) × (L.dependency d f ≡ true) × (L.reach g d ≡ true))

-- A text that is read: dependencies are bound first, every part and the whole are bound, and there are not too many parts.
pub record Readable (L : Language) (Proper : L.Form → Type 0) (order places : List L.Form) (whole : L.Form) : Type 0 where
  pub ordered : Ordered L [] order
  pub proper : All Proper order
  pub bound : Among L (whole ∷ places) order
  pub few : length order ≤ text_parts
  pub placed : length places ≤ text_parts

-- A text that is rejected: the reader's numbers are 5 to 12, and the place is one of the text's or its end.
pub record Rejected (text : List ℕ) (number place : ℕ) : Type 0 where
  pub least : 5 ≤ number
  pub most : number ≤ 12
  pub inside : place ≤ length text

pub record Laws (L : Language) : Type 1 where
  pub tests : Tests L
  -- what else holds of every form of a text and so, by the invariant, of every form held: as much as an engine needs to know of its entries
  pub Proper : L.Form → Type 0
  pub readable : (text : List ℕ) (order places : List L.Form) (whole : L.Form)
      → length text ≤ text_bytes → L.read text ≡ parts order places whole → Readable L Proper order places whole
  pub rejected : (text : List ℕ) (number place : ℕ) → length text ≤ text_bytes → L.read text ≡ rejected number place → Rejected text number place
