-- 01, "The text": the grammar, as trees that keep their brackets, and the tokens that a tree spells.
--   Expression: let name = expression in expression; \ name -> expression; or a chain.
--   Chain: an atom, then any number of . member ( expressions parted by commas, or none ).
--   Atom: a name, a number, or an expression in brackets.
-- A tree is nested to the right: an atom holds the calls behind it, and a call's arguments hold the calls behind the call.
-- Assumes nothing: these are definitions.
use Rattle.std.specs.Prelude.{◌≡◌, List, [], ◌∷◌, ℕ, ℤ}
use Rattle.grammar.specs.Tokens.{Token, k_let, k_in, k_equals, k_lambda, k_arrow, k_dot, k_open, k_shut, k_comma, word, number}

mutual
  -- let, lambda, or a chain by its atom: a name, a number, or brackets
  pub data Expression : Type 0 where
    let_in : List ℕ → Expression → Expression → Expression
    lambda : List ℕ → Expression → Expression
    name : List ℕ → Calls → Expression
    literal : ℤ → Calls → Expression
    bracket : Expression → Calls → Expression

  -- what is called on an atom
  pub data Calls : Type 0 where
    done : Calls
    call : List ℕ → Arguments → Calls

  -- behind the ( of a call
  pub data Arguments : Type 0 where
    none : Calls → Arguments
    first : Expression → More → Arguments

  -- behind an argument
  pub data More : Type 0 where
    last : Calls → More
    next : Expression → More → More

-- the tokens of a tree, and then u
unfoldable mutual
  pub spell_e : Expression → List Token → List Token
  spell_e (let_in x a b) u = k_let ∷ word x ∷ k_equals ∷ spell_e a (k_in ∷ spell_e b u)
  spell_e (lambda x b) u = k_lambda ∷ word x ∷ k_arrow ∷ spell_e b u
  spell_e (name x r) u = word x ∷ spell_c r u
  spell_e (literal z r) u = number z ∷ spell_c r u
  spell_e (bracket e r) u = k_open ∷ spell_e e (k_shut ∷ spell_c r u)

  pub spell_c : Calls → List Token → List Token
  spell_c done u = u
  spell_c (call m a) u = k_dot ∷ word m ∷ k_open ∷ spell_a a u

  pub spell_a : Arguments → List Token → List Token
  spell_a (none r) u = k_shut ∷ spell_c r u
  spell_a (first e x) u = spell_e e (spell_m x u)

  pub spell_m : More → List Token → List Token
  spell_m (last r) u = k_shut ∷ spell_c r u
  spell_m (next e x) u = k_comma ∷ spell_e e (spell_m x u)

-- the tree spells the tokens
abbrev pub Spells : Expression → List Token → Type 0
Spells e ts = spell_e e [] ≡ ts
