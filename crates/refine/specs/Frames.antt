-- A frame that is right for an environment at what an entry sees, and what setting a variable and a run over readings make of it.
-- Assumes nothing.
use Rattle.std.specs.Prelude.{◌≡◌, ◌⊎◌, Bool, true, cond, not, eqb, ℤ, length, get_or, set}
use Rattle.std.proofs.Math.Path.{refl, sym, ap, subst}
use Rattle.std.proofs.Common.{◌∙◌, inl, inr, length-set, get_or-set_same}
use Rattle.std.proofs.Math.Logic.{⊎_elim}
use Rattle.std.proofs.Math.Bool.{false, and-eq-true_iff}
use mathlib.Core.List.{List, [], ◌∷◌, map}
use Prim.Native.Nat.{ℕ, suc, ◌+◌, ◌-◌, ◌≤◌, ◌<◌}
use native.Mathlib.Omega.{arith}
use Rattle.std.proofs.Math.Decide.{dec_lt}
use borrow.Author.Tests.{eq-eqb, ne_eqb, eqb-true, lt-leb, le-leb}
use Rattle.std.proofs.Math.Seq.{get_or-set_other}
use Rattle.std.specs.Int.Signed.{mag}
use Rattle.language.specs.Cases.{split}
use Rattle.language.specs.Limits.{table_entries}
use Rattle.rules.specs.declared.Value.{Value}
use Rattle.rules.specs.declared.Value.TheVariants.{Number}
use Rattle.values.specs.declared.runs.Tally.{Tally}
use Rattle.values.specs.Packing.{pack_of, unpack_of}
use Rattle.values.specs.PackingLaws.{round}
use Rattle.values.specs.Tallies as Tallies
use Rattle.values.specs.TallyLaws.{stopped-stays}
use Rattle.meaning.specs.Forms.{Form, with_level, variable}
use Rattle.meaning.specs.Evaluation.{value_of, Environment, bind, lookup, evaluate, awaited, has_name}
use Rattle.layout.specs.Memory.{Node}
use Rattle.layout.specs.Links.{kind_at, first_at, second_at}
use Rattle.layout.specs.Nodes.{variable_kind, function_kind}
use Rattle.table.specs.WaitsLaws.{variable_at}
use Rattle.table.specs.NodeKinds.{Fine, a_number, a_variable, an_unbound, the_readings, a_function, an_ask, a_call}
use Rattle.table.specs.Waits.{awaits}
use Rattle.chunks.specs.Rows.{Go, bound, fill_of, set_of, over_of}
use Rattle.evaluator.specs.Reach.{moves, gathered}
use Rattle.refine.specs.Free.{dec_eq, free, never, free-variable, unbound-same}
use Rattle.refine.specs.Tables.{Good, Parts, fine, parts, PlainValue, Plain, kept_entry, Sees, here, down, sees-free, sees_below, sees-trans}
use Rattle.refine.specs.Sweeps.{In, Rising, rising-above, list-moves, list-rises, list-low, list-top, list-down}

-- each reading is within signed 32 bits
abbrev pub Small : List ℤ → Type 0
Small [] = Unit {0}
Small (z ∷ zs) = (mag z < 2147483648) × Small zs

-- a tally that has stopped takes no further results
pub turn : (u o : Tally) (vs : List Value) (b : Bool) → u.stopped ≡ b → o ≡ Tallies.gathered u vs → cond b u o ≡ Tallies.gathered u vs
turn u o vs true p e = sym (stopped-stays u vs p)
turn u o vs false p e = e

module _ (links cells waits : List ℕ) (xs : List ℤ) (n : ℕ) (φ : ℕ → Form) where
  abbrev pub value_at : Environment → ℕ → Value
  value_at ρ m = value_of (evaluate xs ρ (φ m))

  abbrev pub Right : Environment → List ℕ → ℕ → Type 0
  Right ρ frame m = get_or frame m 0 ≡ pack_of (value_at ρ m)

  -- `go` is right at each member and function below n and f whose frame is right at what it sees
  abbrev pub GoRight : Go → ℕ → Type 0
  GoRight go f = (ρ : Environment) → Plain ρ → (frame : List ℕ) (i : ℕ) → i < n → i < f → function_kind ≤ kind_at links i → length frame ≡ table_entries
      → ((m : ℕ) → m < i → Sees links φ i m → Right ρ frame m) → go frame i ≡ pack_of (value_at ρ i)

  module _ (good : Good links cells waits xs n φ) where
    vars : (j : ℕ) → j < n → kind_at links j ≡ variable_kind → (φ j ≡ variable (variable_at links cells j)) × ((first_at links j ≡ 0) × (second_at links j ≡ 0))
    vars j h k = by (fine good h) (parts good h)
      where
        by : {q : Node} (k : Fine q) → Parts links cells φ j k → (φ j ≡ variable (variable_at links cells j)) × ((first_at links j ≡ 0) × (second_at links j ≡ 0))
        by (a_number _) e = absurd (omega arith)
        by (a_variable _ _ _) e = (e.form ∙ ap variable (sym e.variable), (e.first, e.second))
        by (an_unbound _) e = absurd (omega arith)
        by the_readings e = absurd (omega arith)
        by (a_function _ _ _ _) e = absurd (omega arith)
        by (an_ask _ _ _) e = absurd (omega arith)
        by (a_call _ _ _ _) e = absurd (omega arith)

    -- a variable x, the entry of it, and a value for it
    module _ (j₀ : ℕ) (var-n : j₀ < n) (var-k : kind_at links j₀ ≡ variable_kind) (go : Go) (f : ℕ) (right : GoRight go f) (ρ : Environment)
        (plain : Plain ρ) (body : ℕ)
        (body-n : body < n) (body-f : body < f) where
      abbrev x : ℕ
      x = variable_at links cells j₀

      abbrev v : ℕ
      v = suc j₀

      abbrev list : List ℕ
      list = gathered links waits v body

      moves-free : (m : ℕ) → m < n → moves waits v m ≡ true → (free x (φ m) ≡ true) × (m ≡ j₀ → ⊥)
      moves-free m h e =
          let p = (and-eq-true_iff (awaits (get_or waits m 0) v) (not (eqb (m + 1) v))).0 e in
          (sym (good.awaited m j₀ h var-n var-k) ∙ p.0, λ q. never p.1 (rw (eq-eqb (m + 1) v (omega arith))))

      free-moves : (m : ℕ) → m < n → free x (φ m) ≡ true → (m ≡ j₀ → ⊥) → moves waits v m ≡ true
      free-moves m h e q = rw (good.awaited m j₀ h var-n var-k ∙ e, ne_eqb (m + 1) v (λ p. q (omega arith)))

      stays : (m : ℕ) → m < n → moves waits v m ≡ false → (m ≡ j₀ → ⊥) → free x (φ m) ≡ false
      stays m h e q = split (free x (φ m)) (λ p. never (free-moves m h p q) e) (λ p. p)

      works : (m : ℕ) → m < n → moves waits v m ≡ true → function_kind ≤ kind_at links m
      unfolding awaited has_name
      works m h e = by (fine good h) (parts good h) (moves-free m h e)
        where
          by : {q : Node} (k : Fine q) → Parts links cells φ m k → (free x (φ m) ≡ true) × (m ≡ j₀ → ⊥) → function_kind ≤ kind_at links m
          by (a_number _) w p = never (rw w.form at p.0) refl
          by (a_variable name k _) w p =
              let y = with_level name k in
              let z : x ≡ y = eqb-true x y (sym (free-variable x y) ∙ (rw w.form at p.0)) in
              absurd (p.1 (good.one m j₀ h var-n w.kind var-k (w.variable ∙ sym z)))
          by (an_unbound _) w p = never (rw w.form at p.0) refl
          by the_readings w p = never (rw w.form at p.0) refl
          by (a_function _ _ _ _) w p = omega arith
          by (an_ask _ _ _) w p = omega arith
          by (a_call _ _ _ _) w p = omega arith

      -- the variable sees itself alone
      var-sees : (m : ℕ) → Sees links φ j₀ m → m ≡ j₀
      var-sees m (here _) = refl
      var-sees m (down _ d _ l s _) = absurd (⊎_elim (λ e. omega (arith, (vars j₀ var-n var-k).1.0)) (λ e. omega (arith, (vars j₀ var-n var-k).1.1)) l.1)

      path-in : (p m : ℕ) → p < n → Sees links φ p m → In p list → moves waits v m ≡ true → In m list
      path-in p m h (here _) i e = i
      path-in p m h (down _ d _ l s w) i e =
          let dn : d < n = omega (arith, l.0) in
          let q = moves-free m (omega (arith, sees_below links φ d m s)) e in
          path-in d m dn s
          (list-down links waits v body (omega (arith, good.most)) p d i l
          (free-moves d dn (sees-free links φ d m s x q.0) (λ z. q.1 (var-sees m (subst (λ (k : ℕ). Sees links φ k m) z s))))) e

      complete : (m : ℕ) → Sees links φ body m → moves waits v m ≡ true → In m list
      complete m s e =
          let q = moves-free m (omega (arith, sees_below links φ body m s)) e in
          path-in body m body-n s
          (list-top links waits v body (omega (arith, good.most))
          (free-moves body body-n (sees-free links φ body m s x q.0) (λ z. q.1 (var-sees m (subst (λ (k : ℕ). Sees links φ k m) z s))))) e

      -- the frame at what the body sees and x is not free in
      abbrev pub Rest : List ℕ → Type 0
      Rest frame = (m : ℕ) → Sees links φ body m → free x (φ m) ≡ false → Right ρ frame m

      module _ (s : Value) (ps : PlainValue s) where
        abbrev ρ' : Environment
        ρ' = bind x s ρ

        abbrev Held : ℕ → List ℕ → Type 0
        Held k frame = (m : ℕ) → Sees links φ body m → ((m < k) ⊎ (moves waits v m ≡ false)) → Right ρ' frame m

        abbrev Filled : List ℕ → Type 0
        Filled frame = (length frame ≡ table_entries) × ((m : ℕ) → Sees links φ body m → Right ρ' frame m)

        fill-right : (js : List ℕ) (k : ℕ) (frame : List ℕ) → Rising k js → ((m : ℕ) → In m js → (moves waits v m ≡ true) × (m < suc body))
            → length frame ≡ table_entries → Held k frame
            → ((m : ℕ) → Sees links φ body m → moves waits v m ≡ true → k ≤ m → In m js) → Filled (fill_of go (body + 1) js frame)
        unfolding fill_of
        fill-right [] k frame r all l held full = (
          l,
          λ m t. split (moves waits v m)
              (λ p. elim (dec_lt m k) [
                | yes h ↦ held m t (inl h)
                | no h ↦ absurd (full m t p (omega arith))
              ])
              (λ p. held m t (inr p)),
        )
        fill-right (j ∷ js) k frame r all l held full =
            let low : j < suc body = (all j (inl refl)).1 in
            rw (lt-leb (body + 1) j (omega arith))
            (fill-right js (suc j) (set frame j (go frame j)) r.1 (λ m i. all m (inr i)) (length-set frame j (go frame j) ∙ l)
            (λ m t h. elim (dec_eq m j) [
              | yes q ↦
                  subst (λ (y : ℕ). Right ρ' (set frame j (go frame j)) y) (sym q)
                  (get_or-set_same frame j (go frame j) 0 (omega (arith, good.most))
                  ∙ right ρ' (ps, plain) frame j (omega arith) (omega arith) (works j (omega arith) (all j (inl refl)).0) l
                  (λ d dl sd. before d (sees-trans links φ body j d (subst (λ (y : ℕ). Sees links φ body y) q t) sd) dl))
              | no q ↦ get_or-set_other frame j m (go frame j) 0 q ∙ ⊎_elim (λ lt. before m t (omega arith)) (λ st. held m t (inr st)) h
            ])
            (λ m t p h. ⊎_elim (λ e. absurd (omega arith)) (λ i. i) (full m t p (omega (arith, r.0)))))
          where
            before : (m : ℕ) → Sees links φ body m → m < j → Right ρ' frame m
            before m t h = split (moves waits v m)
                (λ p. elim (dec_lt m k) [
                  | yes h' ↦ held m t (inl h')
                  | no h' ↦ absurd (⊎_elim (λ e. omega arith) (λ i. omega (arith, rising-above (suc j) m js r.1 i)) (full m t p (omega arith)))
                ])
                (λ p. held m t (inr p))

        abbrev after : List ℕ → List ℕ
        after frame = set_of go (body + 1) list v (pack_of s) frame

        bound-var : (frame : List ℕ) → bound frame v (pack_of s) ≡ set frame j₀ (pack_of s)
        unfolding bound
        bound-var frame = let q : suc j₀ - 1 ≡ j₀ = omega arith in rw (le-leb 1 (suc j₀) (omega arith), q)

        set-filled : (frame : List ℕ) → length frame ≡ table_entries → Rest frame → Filled (after frame)
        unfolding lookup evaluate value_of
        set-filled frame l rest =
            subst (λ (b : List ℕ). Filled (fill_of go (body + 1) list b)) (sym (bound-var frame))
            (fill-right list 0 (set frame j₀ (pack_of s)) (list-rises links waits v body (omega (arith, good.most)))
            (λ m i. (list-moves links waits v body (omega (arith, good.most)) m i, list-low links waits v body (omega (arith, good.most)) m i))
            (length-set frame j₀ (pack_of s) ∙ l)
            (λ m t h. elim (dec_eq m j₀) [
              | yes q ↦
                  subst (λ (y : ℕ). Right ρ' (set frame j₀ (pack_of s)) y) (sym q)
                  (get_or-set_same frame j₀ (pack_of s) 0 (omega (arith, good.most)) ∙ rw (vars j₀ var-n var-k).0 (rw (eq-eqb x x refl)))
              | no q ↦
                  let mn : m < n = omega (arith, sees_below links φ body m t) in
                  let nf : free x (φ m) ≡ false = ⊎_elim (λ z. absurd (omega arith)) (λ z. stays m mn z q) h in
                  get_or-set_other frame j₀ m (pack_of s) 0 q ∙ rest m t nf ∙ ap (λ r. pack_of (value_of r)) (sym (unbound-same xs ρ x s (φ m) nf))
            ])
            (λ m t p h. complete m t p))

        pub set_value : (frame : List ℕ) → length frame ≡ table_entries → Rest frame → Right ρ' (after frame) body
        set_value frame l rest = (set-filled frame l rest).1 body (here body)

        pub set-size : (frame : List ℕ) → length frame ≡ table_entries → Rest frame → length (after frame) ≡ table_entries
        set-size frame l rest = (set-filled frame l rest).0

        pub set_rest : (frame : List ℕ) → length frame ≡ table_entries → Rest frame → Rest (after frame)
        set_rest frame l rest m t nf = (set-filled frame l rest).1 m t ∙ ap (λ r. pack_of (value_of r)) (unbound-same xs ρ x s (φ m) nf)

      abbrev pub run_at : ℤ → Value
      run_at z = value_of (evaluate xs (bind x (Number z) ρ) (φ body))

      -- the runs over readings come to the tally of what the body comes to
      pub over-right : (zs : List ℤ) → Small zs → (frame : List ℕ) → length frame ≡ table_entries → Rest frame → (t : Tally)
          → over_of go body list v frame t zs ≡ Tallies.gathered t (map run_at zs)
      unfolding over_of Tallies.gathered
      over-right [] a frame l rest t = refl
      over-right (z ∷ zs) a frame l rest t =
          let after = set_of go (body + 1) list v (pack_of (Number z)) frame in
          let is : unpack_of (get_or after body 0) ≡ run_at z =
          ap unpack_of (set_value (Number z) a.0 frame l rest) ∙ round (run_at z) (kept_entry links cells waits xs n φ good body body-n (bind x (Number z) ρ) (a.0, plain)).held in
          let again = over-right zs a.1 after (set-size (Number z) a.0 frame l rest) (set_rest (Number z) a.0 frame l rest) (Tallies.stepped t (run_at z)) in
          rw is (turn (Tallies.stepped t (run_at z)) _ (map run_at zs) (Tallies.stepped t (run_at z)).stopped refl again)
