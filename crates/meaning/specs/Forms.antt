-- 01, "Binding", with 02, T-05: let-free forms, when two are equal, and what lies below one. Names are packed numbers.
-- Assumes nothing: these are definitions. That the test is equality is in FormsLaws.
use Rattle.std.specs.Prelude.{Bool, true, false, ◌&&◌, ◌||◌, ℕ, ◌+◌, ◌*◌, ◌/◌, ◌%◌, eqb, ℤ, pos}
use Rattle.members.specs.Members.{member_number}
use Rattle.members.specs.declared.Member.{Member}
use Rattle.members.specs.declared.Member.TheVariants.{Add}
use Rattle.rules.specs.Values.{sameℤ}

-- 02, T-05: a lambda variable is its name and its level, the count of lambdas written around its own lambda. The two make one number, the packed
-- name times 256 plus the level, so that equal variables are equal numbers.
abbrev pub level_base : ℕ
level_base = 256

abbrev pub with_level : (name level : ℕ) → ℕ
with_level x k = x * level_base + k

abbrev pub name_in : ℕ → ℕ
name_in v = v / level_base

abbrev pub level_in : ℕ → ℕ
level_in v = v % level_base

-- 01: a number; a lambda variable; an unbound name; data; a member with its dependencies, receiver first; or a function with its variable and its
-- body, its one dependency
pub data Form : Type 0 where
  number : ℤ → Form
  -- a lambda variable, by name and level
  variable : ℕ → Form
  unbound : ℕ → Form
  -- the recording
  readings : Form
  -- a member with no argument, and one with an argument
  ask : Member → Form → Form
  call : Member → Form → Form → Form
  -- a function with its variable, and so its name and its level, and its body
  function : ℕ → Form → Form

-- the dependencies of a form: a member's receiver and its argument, a function's body
pub data IsDependency : Form → Form → Type 0 where
  of_ask : (m : Member) (f : Form) → IsDependency f (ask m f)
  receiver : (m : Member) (f a : Form) → IsDependency f (call m f a)
  argument : (m : Member) (f a : Form) → IsDependency a (call m f a)
  body : (x : ℕ) (b : Form) → IsDependency b (function x b)

-- 01, "Working out": below an entry lies all that its dependencies, and theirs in turn, reach; the first form is the second or lies below it
pub data AtOrBelow : Form → Form → Type 0 where
  itself : (f : Form) → AtOrBelow f f
  through : (f d g : Form) → AtOrBelow f d → IsDependency d g → AtOrBelow f g

-- the two members are one
abbrev pub same_member : Member → Member → Bool
same_member m n = eqb (member_number m) (member_number n)

-- the pieces of a form: which of the seven it is, its number, its variable or unbound name, its member, and its dependencies, the receiver or body
-- first
unfoldable pub shape_of : Form → ℕ
shape_of (number z) = 0
shape_of (variable x) = 1
shape_of (unbound x) = 2
shape_of readings = 3
shape_of (ask m f) = 4
shape_of (call m f a) = 5
shape_of (function x b) = 6

unfoldable pub integer_of : Form → ℤ
integer_of (number z) = z
integer_of (variable x) = pos 0
integer_of (unbound x) = pos 0
integer_of readings = pos 0
integer_of (ask m f) = pos 0
integer_of (call m f a) = pos 0
integer_of (function x b) = pos 0

unfoldable pub name_of : Form → ℕ
name_of (number z) = 0
name_of (variable x) = x
name_of (unbound x) = x
name_of readings = 0
name_of (ask m f) = 0
name_of (call m f a) = 0
name_of (function x b) = x

unfoldable pub member_of : Form → Member
member_of (number z) = Add
member_of (variable x) = Add
member_of (unbound x) = Add
member_of readings = Add
member_of (ask m f) = m
member_of (call m f a) = m
member_of (function x b) = Add

unfoldable pub first_of : Form → Form
first_of (number z) = readings
first_of (variable x) = readings
first_of (unbound x) = readings
first_of readings = readings
first_of (ask m f) = f
first_of (call m f a) = f
first_of (function x b) = b

unfoldable pub second_of : Form → Form
second_of (number z) = readings
second_of (variable x) = readings
second_of (unbound x) = readings
second_of readings = readings
second_of (ask m f) = readings
second_of (call m f a) = a
second_of (function x b) = readings

-- equality of forms, piece by piece
unfoldable pub same : Form → Form → Bool
same (number z) g = eqb 0 (shape_of g) && sameℤ z (integer_of g)
same (variable x) g = eqb 1 (shape_of g) && eqb x (name_of g)
same (unbound x) g = eqb 2 (shape_of g) && eqb x (name_of g)
same readings g = eqb 3 (shape_of g)
same (ask m f) g = eqb 4 (shape_of g) && (same_member m (member_of g) && same f (first_of g))
same (call m f a) g = eqb 5 (shape_of g) && (same_member m (member_of g) && (same f (first_of g) && same a (second_of g)))
same (function x b) g = eqb 6 (shape_of g) && (eqb x (name_of g) && same b (first_of g))

-- f is a dependency of the form
unfoldable pub dependency : Form → Form → Bool
dependency f (number z) = false
dependency f (variable x) = false
dependency f (unbound x) = false
dependency f readings = false
dependency f (ask m g) = same f g
dependency f (call m g a) = same f g || same f a
dependency f (function x b) = same f b

-- f is the form or lies below it
unfoldable pub within : Form → Form → Bool
within f (number z) = same f (number z)
within f (variable x) = same f (variable x)
within f (unbound x) = same f (unbound x)
within f readings = same f readings
within f (ask m g) = same f (ask m g) || within f g
within f (call m g a) = same f (call m g a) || (within f g || within f a)
within f (function x b) = same f (function x b) || within f b

-- members and functions are worked out; the others are from the start
unfoldable pub works : Form → Bool
works (number z) = false
works (variable x) = false
works (unbound x) = false
works readings = false
works (ask m f) = true
works (call m f a) = true
works (function x b) = true
