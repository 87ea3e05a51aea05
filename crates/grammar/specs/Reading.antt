-- 01, "When a call is declined", refusals 5 to 12: what it means that tokens, and a text, are read as a tree or refused at a place.
-- Assumes nothing: these are definitions. That the reader of Machine does just this is in Theorems.
use Rattle.std.specs.Prelude.{◌≡◌, List, [], map, ℕ, suc, ◌≤◌, length, take, get_or}
use Rattle.grammar.specs.Tokens.{Token, Located, tokens}
use Rattle.grammar.specs.Grammar.{Expression, spell_e, Spells}
use Rattle.grammar.specs.Faults.{faults_of, Clean}

-- the tree spells the tokens and keeps the limits
pub record ReadsAs (ts : List Token) (e : Expression) : Type 0 where
  pub spelled : Spells e ts
  pub clean : Clean (faults_of e)

-- the tree spells tokens that begin with the first j of ts
abbrev pub AgreesTo : ℕ → List Token → Expression → Type 0
AgreesTo j ts e = take j (spell_e e []) ≡ take j ts

-- refused by the number n at token j; j is the number of tokens where the end is refused
pub record RefusedBy (ts : List Token) (n j : ℕ) : Type 0 where
  -- 0 stands for no fault
  pub refusal : ¬ (n ≡ 0)
  -- a grammatical text begins with the tokens before j, and where n is not 5 also with token j
  pub before : (e : Expression) × AgreesTo j ts e
  pub beyond : ¬ (n ≡ 5) → (e : Expression) × AgreesTo (suc j) ts e
  -- none of those tokens is at fault in any of them
  pub clear : (e : Expression) → AgreesTo j ts e → Clean (take j (faults_of e))
  -- 5: no grammatical text goes on with token j, or ends there; another number: it is the fault at token j in all that go on with it
  pub stops : n ≡ 5 → (e : Expression) → ¬ AgreesTo (suc j) ts e
  pub fault : (e : Expression) → AgreesTo (suc j) ts e → get_or (faults_of e) j 0 ≡ n

-- the numbers of a text's refusals: 5 to 12 without 11, since an inner lambda hides an outer one of its name (02, T-05)
abbrev pub IsTextRefusal : (number : ℕ) → Type 0
IsTextRefusal n = (5 ≤ n) × (n ≤ 12) × (¬ (n ≡ 11))

-- what is read from a text: a tree, or a refusal's number and byte place
pub data Reading : Type 0 where
  tree : Expression → Reading
  refused : ℕ → ℕ → Reading

-- the byte place of token j; the end's place is the text's length
unfoldable pub place_in : List Located → ℕ → ℕ → ℕ
place_in xs end j = get_or (map (λ (x : Located). x.place) xs) j end

abbrev pub place_of : List ℕ → ℕ → ℕ
place_of text j = place_in (tokens text) (length text) j

-- the tokens of a text, without their places
abbrev pub tokens_of : List ℕ → List Token
tokens_of text = map (λ (x : Located). x.token) (tokens text)
