-- The records that a tree is read to: one for each part but lets and uses of their names, in the order of binding (01, "Binding"), with
-- links to earlier records; and, by place, the record of each part. A let's name stands for the record of its value, so that what is
-- shared stays shared. A variable and a function have their level (02, T-05). Assumes nothing: these are definitions. That they unfold to the
-- let-free forms is bridge's Recorded.
use Rattle.std.specs.Prelude.{cond, List, [], ◌∷◌, ◌++◌, ℕ, zero, suc, eqb, ℤ, pos, nat_abs, ◌+ℤ◌, length}
use Rattle.language.specs.Names.{packed, same_name, is_data}
use Rattle.grammar.specs.Grammar.{Expression, Calls, Arguments, More, let_in, lambda, name, literal, bracket, done, call, none, first, last, next}
use Rattle.meaning.specs.Binding.{member}
use Rattle.layout.specs.Memory.{Node, node_with, node}
use Rattle.layout.specs.Nodes.{number_kind, variable_kind, unbound_kind, readings_kind, function_kind, member_kind}

-- a name, and what it stands for: 0 a lambda's variable, or one more than the record of a let's value
abbrev pub Named : Type 0
Named = List ℕ × ℕ

-- how many lambdas are written around
unfoldable pub lambdas_of : List Named → ℕ
lambdas_of [] = 0
lambdas_of (e ∷ Σ) = cond (eqb e.1 0) (suc (lambdas_of Σ)) (lambdas_of Σ)

-- the records so far, the record of what was read last, and the records of its parts by place
pub record Recorded : Type 0 where
  pub records : List Node
  pub root : ℕ
  pub places : List ℕ

-- one more record, with its part
abbrev pub new_record : Node → List Node → List ℕ → Recorded
new_record n t ps = record { records = t ++ (n ∷ []); root = length t; places = ps }

-- a number is kept as itself plus 2^31
abbrev pub number_key : ℤ → ℕ
number_key z = nat_abs (z +ℤ pos 2147483648)

-- the record of a name that is bound, where k lambdas are around its let or lambda: a variable's own, or that of the let's value
abbrev pub linked : ℕ → List ℕ → (k : ℕ) → List Node → Recorded
linked zero x k t = new_record (node_with variable_kind (packed x) 0 0 k) t (length t ∷ [])
linked (suc j) x k t = record { records = t; root = j; places = j ∷ [] }

-- an inner let or lambda hides an outer one; a name that none of them binds is unbound
unfoldable pub record_scoped : List ℕ → List Named → List Node → Recorded
record_scoped x [] t = new_record (node unbound_kind (packed x) 0 0) t (length t ∷ [])
record_scoped x (e ∷ Σ) t = cond (same_name x e.0) (linked e.1 x (lambdas_of Σ) t) (record_scoped x Σ t)

-- a name in use
unfoldable pub record_name : List ℕ → List Named → List Node → Recorded
record_name x Σ t = cond (is_data x) (new_record (node readings_kind 0 0 0) t (length t ∷ [])) (record_scoped x Σ t)

-- what comes behind an atom or a call, whose parts stand before its own
abbrev pub behind : List ℕ → Recorded → Recorded
behind ps r = record { records = r.records; root = r.root; places = ps ++ r.places }

-- the records of an expression behind those of t; of the calls on record f; of the call of m on record f
unfoldable mutual
  pub record_e : Expression → List Named → List Node → Recorded
  record_e (let_in x a b) Σ t =
      let A : Recorded = record_e a Σ t in
      let B : Recorded = record_e b ((x, suc A.root) ∷ Σ) A.records in
      behind (B.root ∷ A.places) B
  record_e (lambda x b) Σ t =
      let B : Recorded = record_e b ((x, 0) ∷ Σ) t in
      new_record (node_with function_kind (packed x) (suc B.root) 0 (lambdas_of Σ)) B.records (length B.records ∷ B.places)
  record_e (name x r) Σ t =
      let N : Recorded = record_name x Σ t in
      behind N.places (record_c r N.root Σ N.records)
  record_e (literal z r) Σ t = behind (length t ∷ []) (record_c r (length t) Σ (t ++ (node number_kind (number_key z) 0 0 ∷ [])))
  record_e (bracket e r) Σ t =
      let E : Recorded = record_e e Σ t in
      behind E.places (record_c r E.root Σ E.records)

  pub record_c : Calls → ℕ → List Named → List Node → Recorded
  record_c done f Σ t = record { records = t; root = f; places = [] }
  record_c (call m a) f Σ t = record_a a m f Σ t

  pub record_a : Arguments → List ℕ → ℕ → List Named → List Node → Recorded
  record_a (none r) m f Σ t = behind (length t ∷ []) (record_c r (length t) Σ (t ++ (node (member_kind (member m)) 0 (suc f) 0 ∷ [])))
  record_a (first e x) m f Σ t =
      let E : Recorded = record_e e Σ t in
      record_m x m f E.root E.places Σ E.records

  -- behind the argument with record a; ps: the parts of the arguments so far
  pub record_m : More → List ℕ → ℕ → ℕ → List ℕ → List Named → List Node → Recorded
  record_m (last r) m f a ps Σ t = behind (length t ∷ ps) (record_c r (length t) Σ (t ++ (node (member_kind (member m)) 0 (suc f) (suc a) ∷ [])))
  record_m (next e x) m f a ps Σ t =
      let E : Recorded = record_e e Σ t in
      record_m x m f a (ps ++ E.places) Σ E.records

-- of a whole text
abbrev pub records_of : Expression → Recorded
records_of e = record_e e [] []
