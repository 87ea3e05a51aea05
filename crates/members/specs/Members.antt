-- 01, "Members", and 02, T-01: the table of the members, a row for each, in the papers' order. Assumes nothing: these are definitions.
use Rattle.std.specs.Prelude.{Option, Some, None}
use Rattle.std.specs.Prelude.{Bool, true, false, ◌&&◌, cond, List, [], ◌∷◌, map, ℕ, ◌*◌, eqb, length, get_or, take, drop}
use Prim.Native.String.{String}
use Rattle.language.specs.Limits.{name_bytes}
use Rattle.language.specs.Names.{bytes, packed}
use Rattle.members.specs.declared.Member.{Member}
use Rattle.members.specs.declared.Member.TheVariants.{Add, Sub, Mul, Div, Gt, Eq, Skip, Take, Count, Sum, Min, Max, At, CountWhere, LongestRun, SumBy, BestSum, BestAt}
use Rattle.members.specs.declared.Kind.{Kind}
use Rattle.members.specs.declared.Kind.TheVariants as Kinds
use Rattle.members.specs.declared.Signature.{Signature}
use Rattle.members.specs.declared.Signature.TheVariants.{Numbers, Window, WindowNumber, WindowFunction}
use Rattle.members.specs.declared.Name.{Name}

-- a member's row: its number, which is its place in the table, its name, and what it is used on and with
abbrev pub listed : Member → ℕ × String × Signature
listed Add = (0, "add", Numbers)
listed Sub = (1, "sub", Numbers)
listed Mul = (2, "mul", Numbers)
listed Div = (3, "div", Numbers)
listed Gt = (4, "gt", Numbers)
listed Eq = (5, "eq", Numbers)
listed Skip = (6, "skip", WindowNumber)
listed Take = (7, "take", WindowNumber)
listed Count = (8, "count", Window)
listed Sum = (9, "sum", Window)
listed Min = (10, "min", Window)
listed Max = (11, "max", Window)
listed At = (12, "at", WindowNumber)
listed CountWhere = (13, "countWhere", WindowFunction)
listed LongestRun = (14, "longestRun", WindowFunction)
listed SumBy = (15, "sumBy", WindowFunction)
listed BestSum = (16, "bestSum", WindowNumber)
listed BestAt = (17, "bestAt", WindowNumber)

-- its name, and how many arguments it takes
unfoldable pub spelled : Member → List ℕ
spelled m = bytes (listed m).1

abbrev pub arguments_of : Signature → ℕ
arguments_of Numbers = 1
arguments_of Window = 0
arguments_of WindowNumber = 1
arguments_of WindowFunction = 1

unfoldable pub arguments : Member → ℕ
arguments m = arguments_of (listed m).2

abbrev pub members : List Member
members = Add ∷ Sub ∷ Mul ∷ Div ∷ Gt ∷ Eq ∷ Skip ∷ Take ∷ Count ∷ Sum ∷ Min ∷ Max ∷ At ∷ CountWhere ∷ LongestRun ∷ SumBy ∷ BestSum ∷ BestAt ∷ []

abbrev pub member_number : Member → ℕ
member_number m = (listed m).0

-- by what was found: what is given for none, and what becomes of a member
abbrev pub if_member : {A : Type 0} → A → Option Member → (Member → A) → A
if_member other (Some m) f = f m
if_member other None f = other

-- the member of a number
unfoldable pub member_at : ℕ → Option Member
member_at n = get_or (map Some members) n None

-- the two lists of bytes are equal
unfoldable pub same_bytes : List ℕ → List ℕ → Bool
same_bytes [] [] = true
same_bytes [] (b ∷ w) = false
same_bytes (a ∷ v) [] = false
same_bytes (a ∷ v) (b ∷ w) = eqb a b && same_bytes v w

unfoldable pub named_in : List Member → List ℕ → Option Member
named_in [] w = None
named_in (m ∷ ms) w = cond (same_bytes w (spelled m)) (Some m) (named_in ms w)

-- the member of a name
unfoldable pub member_of : List ℕ → Option Member
member_of w = named_in members w

-- none was found
abbrev pub is_unknown : Option Member → Bool
is_unknown f = if_member true f (λ m. false)

-- how many arguments it takes
unfoldable pub takes : Option Member → ℕ
takes f = if_member 0 f arguments

-- ---- as the code has them: the kinds of what a member is used on and with, each with a number

abbrev pub receiver_of : Signature → Kind
receiver_of Numbers = Kinds.Number
receiver_of Window = Kinds.Window
receiver_of WindowNumber = Kinds.Window
receiver_of WindowFunction = Kinds.Window

-- Nothing where the member takes no argument
abbrev pub argument_of : Signature → Kind
argument_of Numbers = Kinds.Number
argument_of Window = Kinds.Nothing
argument_of WindowNumber = Kinds.Number
argument_of WindowFunction = Kinds.Function

pub record Row : Type 0 where
  pub receiver : Kind
  pub argument : Kind

unfoldable pub row : Member → Row
row m = record { receiver = receiver_of (listed m).2; argument = argument_of (listed m).2 }

-- a kind by its number
abbrev pub kind_number : Kind → ℕ
kind_number Kinds.Nothing = 0
kind_number Kinds.Number = 1
kind_number Kinds.Window = 2
kind_number Kinds.Function = 3

-- the most bytes of a name as the code has it: two numbers, with room for eight each
abbrev pub longest_name : ℕ
longest_name = 2 * name_bytes

-- a name as the code has it: its first eight bytes packed, the others packed, and how many there are
unfoldable pub packed_name : List ℕ → Name
packed_name w = (packed (take name_bytes w), packed (drop name_bytes w), length w)

abbrev pub same_packed : Name → Name → Bool
same_packed a b = eqb a.0 b.0 && (eqb a.1 b.1 && eqb a.2 b.2)
