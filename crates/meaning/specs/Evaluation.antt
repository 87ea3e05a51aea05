-- 01, "Members", and the paper's Figure 5: what a let-free form comes to over a recording, and what it shows.
-- A variable stands for a number while its function runs; otherwise it is delayed. That a run puts the number for the variable in the
-- body is in EvaluationLaws. Assumes nothing: these are definitions.
use Rattle.std.specs.Prelude.{Bool, true, false, cond, not, ◌&&◌, ◌||◌, List, [], ◌∷◌, ◌++◌, map, ℕ, eqb, ℤ, pos, length}
use Rattle.rules.specs.declared.Value.{Value}
use Rattle.rules.specs.declared.Value.TheVariants.{Number, Window, Function, Delayed, Missing}
use Rattle.rules.specs.Values.{unbound_name}
use Rattle.rules.specs.Apply.{apply0, apply1, is_missing, is_delayed}
use Rattle.meaning.specs.Forms.{Form, number, variable, unbound, readings, ask, call, function, name_in, name_of}

-- what a form comes to: a value that holds no function; or a function, with what its body comes to for a reading
pub data Result : Type 0 where
  plain : Value → Result
  runs : (ℤ → Result) → Result

unfoldable pub value_of : Result → Value
value_of (plain v) = v
value_of (runs g) = Function

-- what a run on a reading gives
unfoldable pub run_of : Result → ℤ → Value
run_of (plain v) z = Missing 2
run_of (runs g) z = value_of (g z)

-- what the variables stand for
pub data Environment : Type 0 where
  nowhere : Environment
  bind : ℕ → Value → Environment → Environment

-- the innermost; a variable that stands for nothing is delayed
unfoldable pub lookup : Environment → ℕ → Value
lookup nowhere y = Delayed
lookup (bind x v ρ) y = cond (eqb x y) v (lookup ρ y)

-- no variable is awaited: each free one stands for a number
unfoldable pub settled : Environment → Form → Bool
settled ρ (number z) = true
settled ρ (variable x) = not (is_delayed (lookup ρ x))
settled ρ (unbound x) = true
settled ρ readings = true
settled ρ (ask m f) = settled ρ f
settled ρ (call m f a) = settled ρ f && settled ρ a
settled ρ (function x b) = settled (bind x (Number (pos 0)) ρ) b

-- a function: missing where its body is, with its own variable delayed; delayed where the body awaits another variable
abbrev pub function_of : Value → Bool → (ℤ → Result) → Result
function_of v s g = cond (is_missing v) (plain v) (cond s (runs g) (plain Delayed))

-- Figure 5, as mended by 01: data is a value, an unbound name is missing, and a member is applied to what its dependencies come to
unfoldable pub evaluate : List ℤ → Environment → Form → Result
evaluate xs ρ (number z) = plain (Number z)
evaluate xs ρ (variable x) = plain (lookup ρ x)
evaluate xs ρ (unbound x) = plain (Missing unbound_name)
evaluate xs ρ readings = plain (Window 0 (length xs))
evaluate xs ρ (ask m f) = plain (apply0 m xs (value_of (evaluate xs ρ f)))
evaluate xs ρ (call m f a) = plain (apply1 m xs (value_of (evaluate xs ρ f)) (value_of (evaluate xs ρ a)) (run_of (evaluate xs ρ a)))
evaluate xs ρ (function x b) =
    function_of (value_of (evaluate xs (bind x Delayed ρ) b)) (settled (bind x (Number (pos 0)) ρ) b)
    (λ z. evaluate xs (bind x (Number z) ρ) b)

-- the number z put for the free variable x
unfoldable pub put_for : ℕ → ℤ → Form → Form
put_for x z (number a) = number a
put_for x z (variable y) = cond (eqb x y) (number z) (variable y)
put_for x z (unbound y) = unbound y
put_for x z readings = readings
put_for x z (ask m f) = ask m (put_for x z f)
put_for x z (call m f a) = call m (put_for x z f) (put_for x z a)
put_for x z (function y b) = cond (eqb x y) (function y b) (function y (put_for x z b))

-- a variable is one of these
unfoldable pub has_name : ℕ → List ℕ → Bool
has_name x [] = false
has_name x (y ∷ ys) = eqb x y || has_name x ys

-- those of ys behind those of xs, each once
unfoldable pub joined : List ℕ → List ℕ → List ℕ
joined xs [] = xs
joined xs (y ∷ ys) = joined (cond (has_name y xs) xs (xs ++ (y ∷ []))) ys

-- all but x
unfoldable pub without : ℕ → List ℕ → List ℕ
without x [] = []
without x (y ∷ ys) = cond (eqb x y) (without x ys) (y ∷ without x ys)

-- the variables awaited: those that are free, by first occurrence in the let-free form
unfoldable pub awaited : Form → List ℕ
awaited (number z) = []
awaited (variable x) = x ∷ []
awaited (unbound x) = []
awaited readings = []
awaited (ask m f) = awaited f
awaited (call m f a) = joined (awaited f) (awaited a)
awaited (function x b) = without x (awaited b)

-- what is shown for an entry
pub data Shown : Type 0 where
  a_number : ℤ → Shown
  a_window : (start length : ℕ) → Shown
  a_function : (name : ℕ) → Shown
  a_delay : (names : List ℕ) → Shown
  a_reason : ℕ → Shown

-- a value as it is shown: a function by its name, and a delay by the names that are awaited
abbrev pub shown_as : ℕ → List ℕ → Value → Shown
shown_as name names (Number z) = a_number z
shown_as name names (Window s l) = a_window s l
shown_as name names Function = a_function name
shown_as name names Delayed = a_delay names
shown_as name names (Missing r) = a_reason r

-- 01: what a form shows, from the form and the recording alone: a function its name, a delayed one the awaited names by first occurrence, a name for
-- each variable (02, T-05), so that two variables of one spelling name it twice
unfoldable pub shows : List ℤ → Form → Shown
shows xs f = shown_as (name_in (name_of f)) (map name_in (awaited f)) (value_of (evaluate xs nowhere f))
