-- What it means that bytes are written directly before what is written, from right to left, as long as there is room. Assumes nothing: these
-- are definitions.
use Rattle.std.specs.Prelude.{◌≡◌, Option, Some, None, Bool, ◌&&◌, cond, ◌⊎◌, List, [], ◌++◌, ℕ, suc, ◌+◌, ◌^◌, ◌≤◌, ◌<◌, eqb, leb, length, drop}
use Rattle.language.specs.Limits.{text_bytes, name_bytes}
use Rattle.language.specs.Names.{bytes, data_word}
use Rattle.members.specs.Members.{if_member, spelled}
use Rattle.members.specs.declared.Member.{Member}
use Rattle.layout.specs.Memory.{Node}
use Rattle.layout.specs.Nodes.{number_kind, readings_kind, number_of_key}
use Rattle.printing.specs.Printed.{digits_onto, digits, decimals, unpack_onto, unpacked}
use Rattle.writer.specs.declared.page.Page.{Page}

-- the place of a page whose room is used up
abbrev pub stopped_at : ℕ
stopped_at = suc text_bytes

-- the bytes w stand directly before what was written
pub record Stands (w : List ℕ) (p q : Page) : Type 0 where
  pub top : p.at ≤ text_bytes
  pub room : p.low ≤ p.at → p.low ≤ q.at
  pub size : q.at + length w ≡ p.at
  pub bytes : drop q.at q.bytes ≡ w ++ drop p.at p.bytes

-- they do, or there was no room for them; a page whose room is used up stays as it was
pub record Puts (w : List ℕ) (p : Page) (r : Option (Unit {0})) (q : Page) : Type 0 where
  pub same : q.low ≡ p.low
  pub down : q.at ≤ p.at
  pub written : r ≡ Some tt → Stands w p q
  pub full : r ≡ None → (p.at ≡ stopped_at) ⊎ (p.at < p.low + length w)
  pub stopped : p.at ≡ stopped_at → (r ≡ None) × (q ≡ p)

-- a page whose place and whose bound lie in its bytes: each that `new` gives, and each that the functions here leave of such a one
pub record InFrame (p : Page) : Type 0 where
  pub at : p.at ≤ text_bytes
  pub low : p.low ≤ text_bytes

-- the bytes of a whole word have room before a place
abbrev pub has_room : ℕ → ℕ → Bool
has_room low at = leb (low + name_bytes) at && leb at text_bytes

-- the bytes of an entry that is no function and no member
unfoldable pub leaf_bytes : Node → List ℕ
leaf_bytes n =
    cond (eqb n.kind number_kind) (decimals (number_of_key n.key))
    (cond (eqb n.kind readings_kind) data_word
    (unpacked n.key))

-- a dot and a member's name
unfoldable pub member_bytes : Option Member → List ℕ
member_bytes f = if_member [] f (λ m. bytes "." ++ spelled m)

-- what stands before a function's body: the name is packed; r: the function is a receiver
unfoldable pub head_bytes : Bool → ℕ → List ℕ
head_bytes r name = cond r (bytes "(") [] ++ (bytes "\\" ++ (unpacked name ++ bytes " -> "))

-- of a packed word the bytes `done` are written, and those of `rest` are left, at most so many
pub record Unpacks (word : ℕ) (p : Page) (rest : ℕ) (q : Page) : Type 0 where
  pub left : ℕ
  pub done : List ℕ
  pub small : rest < 256 ^ left
  pub same : unpack_onto left rest done ≡ unpacked word
  pub puts : Puts done p (Some tt) q

-- of a number's digits likewise, or the room was used up before the first one
pub record Counts (n : ℕ) (p : Page) (rest : ℕ) (q : Page) : Type 0 where
  pub left : ℕ
  pub done : List ℕ
  pub small : rest < 10 ^ suc left
  pub same : digits_onto (suc left) rest done ≡ digits n
  pub puts : p.at ≤ text_bytes → Puts done p (Some tt) q
  pub stopped : p.at ≡ stopped_at → q ≡ p
