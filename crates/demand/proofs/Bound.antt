-- Binding over the table's nodes is the model's binding of records: the laws that it asks for, and that the two are one. Assumes nothing.
use Rattle.std.specs.Prelude.{◌≡◌, refl, true, false, cond, List, [], ◌∷◌, ◌++◌, map, ℕ, zero, suc, ◌<◌, ltb, length, get_or}
use Rattle.std.proofs.lemmas.Bool.{false≢true}
use Rattle.std.proofs.Common.{sym, ap, ◌∙◌, subst, append-nil, append_assoc, arith, lt-ltb, le-ltb}
use Rattle.language.specs.Cases.{split}
use Rattle.meaning.specs.Forms.{Form}
use Rattle.model.specs.Lists.{member, index}
use Rattle.model.specs.Decoding.{decode_from}
use Rattle.model.specs.Graph.{among, form_at, AllPlaced, decode}
use Rattle.model.specs.Binder as Binder
use Rattle.layout.specs.Memory.{Node, node_with}
use Rattle.layout.specs.Nodes.{same_node, build, kids, arity, member_of_kind}
use Rattle.table.specs.Bind.{relinked, relink, Bound, bind_one, bind_all}
use Rattle.table.specs.NodeKinds.{Fine, a_number, a_variable, an_unbound, the_readings, a_function, an_ask, a_call, node_form, build-fine}
use Rattle.formulas.specs.Formulas.{formulas}
use Rattle.bridge.specs.Graphs.{nodes, kids-function, kids-ask, kids-call, among_one, among_two, among_first, among_second}

-- links changed by a function of numbers
abbrev link_by : (ℕ → ℕ) → ℕ → ℕ
link_by ρ zero = 0
link_by ρ (suc j) = suc (ρ j)

unfoldable pub relink_by : Node → (ℕ → ℕ) → Node
relink_by n ρ = node_with n.kind n.key (link_by ρ n.first) (link_by ρ n.second) n.level

-- a node so changed is of the same kind, and its form is of the forms of the changed links
fine-relinked : {n : Node} (ρ : ℕ → ℕ) (k : Fine n) → (l : Fine (relink_by n ρ)) × ((φ : ℕ → Form) → node_form l φ ≡ node_form k (λ (j : ℕ). φ (ρ j)))
unfolding relink_by
fine-relinked ρ (a_number key) = (a_number key, λ φ. refl)
fine-relinked ρ (a_variable x k l) = (a_variable x k l, λ φ. refl)
fine-relinked ρ (an_unbound x) = (an_unbound x, λ φ. refl)
fine-relinked ρ the_readings = (the_readings, λ φ. refl)
fine-relinked ρ (a_function x b k l) = (a_function x (ρ b) k l, λ φ. refl)
fine-relinked ρ (an_ask m f e) = (an_ask m (ρ f) e, λ φ. refl)
fine-relinked ρ (a_call m f a e) = (a_call m (ρ f) (ρ a) e, λ φ. refl)

form-relinked : (n : Node) (ρ : ℕ → ℕ) (φ : ℕ → Form) → Fine n → build (relink_by n ρ) φ ≡ build n (λ (j : ℕ). φ (ρ j))
form-relinked n ρ φ k = let l = fine-relinked ρ k in build-fine l.0 φ ∙ l.1 φ ∙ sym (build-fine k (λ (j : ℕ). φ (ρ j)))

pub among-by : (j : ℕ) (l k : List ℕ) → l ≡ k → among j k ≡ true → among j l ≡ true
among-by j l k e h = rw e h

from-relinked : (n : Node) (ρ : ℕ → ℕ) (j : ℕ) → Fine n → among j (kids (relink_by n ρ)) ≡ true → (k : ℕ) × (among k (kids n) ≡ true) × (ρ k ≡ j)
unfolding relink_by kids arity member_of_kind member
from-relinked _ ρ j (a_number k) h = absurd (false≢true h)
from-relinked _ ρ j (a_variable x k _) h = absurd (false≢true h)
from-relinked _ ρ j (an_unbound x) h = absurd (false≢true h)
from-relinked _ ρ j the_readings h = absurd (false≢true h)
from-relinked _ ρ j (a_function x b k _) h =
    (b, among-by b _ _ (kids-function x b k) (among_first b []), among_one j (ρ b) (subst (λ (l : List ℕ). among j l ≡ true) (kids-function x (ρ b) k) h))
from-relinked _ ρ j (an_ask m f e) h = (f, among-by f _ _ (kids-ask m f e) (among_first f []), among_one j (ρ f) (subst (λ (l : List ℕ). among j l ≡ true) (kids-ask m (ρ f) e) h))
from-relinked _ ρ j (a_call m f a e) h =
    among_two j (ρ f) (ρ a) (subst (λ (l : List ℕ). among j l ≡ true) (kids-call m (ρ f) (ρ a) e) h)
    (λ q. (f, among-by f _ _ (kids-call m f a e) (among_first f (a ∷ [])), q))
    (λ q. (a, among-by a _ _ (kids-call m f a e) (among_second f a), q))

pub relinks : Binder.Relinks formulas nodes relink_by
relinks = record { fine = λ n ρ k. (fine-relinked ρ k).0; form = form-relinked; from = from-relinked }

-- the two are one
link-same : (numbers : List ℕ) (l : ℕ) → relinked numbers l ≡ link_by (λ (k : ℕ). get_or numbers k 0) l
link-same numbers zero = refl
link-same numbers (suc j) = refl

relink-same : (numbers : List ℕ) (n : Node) → relink numbers n ≡ relink_by n (λ (k : ℕ). get_or numbers k 0)
unfolding relink relink_by
relink-same numbers n = λ i. node_with n.kind n.key (link-same numbers n.first i) (link-same numbers n.second i) n.level

-- found: below the length; not found: the length
found_below : (n : Node) (ns : List Node) → member same_node n ns ≡ true → index same_node n ns < length ns
unfolding member index
found_below n [] h = absurd (false≢true h)
found_below n (m ∷ ns) h = split (same_node m n) (λ e. rw e (omega arith)) (λ e. let r = found_below n ns (rw e at h) in rw e (omega arith))

not_found : (n : Node) (ns : List Node) → member same_node n ns ≡ false → index same_node n ns ≡ length ns
unfolding member index
not_found n [] h = refl
not_found n (m ∷ ns) h = split (same_node m n) (λ e. absurd (false≢true (sym (rw e at h)))) (λ e. rw e (ap suc (not_found n ns (rw e at h))))

-- the model's state of binding, from the table's
abbrev pub as_bound : Bound → Binder.Bound formulas nodes relink_by
as_bound b = record { nodes = b.nodes; numbers = b.numbers }

test-same : (n : Node) (ns : List Node) → ltb (index same_node n ns) (length ns) ≡ member same_node n ns
test-same n ns =
    split (member same_node n ns)
    (λ e. lt-ltb _ _ (found_below n ns e) ∙ sym e)
    (λ e. let q = not_found n ns e in le-ltb (index same_node n ns) (length ns) (omega arith) ∙ sym e)

number_same : (n : Node) (ns : List Node) → index same_node n ns ≡ cond (member same_node n ns) (index same_node n ns) (length ns)
number_same n ns = split (member same_node n ns) (λ e. rw e) (λ e. rw e (not_found n ns e))

one_same : (b : Bound) (r : Node) → as_bound (bind_one b r) ≡ Binder.bind_one formulas nodes relink_by (as_bound b) (Binder.fresh r)
unfolding bind_one Binder.bind_one
one_same b r =
    let ns = b.nodes in
    let m = relink_by r (λ (k : ℕ). get_or b.numbers k 0) in
    let e : relink b.numbers r ≡ m = relink-same b.numbers r in
    let f : index same_node (relink b.numbers r) ns ≡ index same_node m ns = ap (λ (x : Node). index same_node x ns) e in
    let t : ltb (index same_node (relink b.numbers r) ns) (length ns) ≡ member same_node m ns = ap (λ (k : ℕ). ltb k (length ns)) f ∙ test-same m ns in
    let v : index same_node (relink b.numbers r) ns ≡ cond (member same_node m ns) (index same_node m ns) (length ns) = f ∙ number_same m ns in
    λ i. record { nodes = cond (t i) ns (ns ++ (e i ∷ [])); numbers = b.numbers ++ (v i ∷ []) }

pub all_same : (b : Bound) (rs : List Node) → as_bound (bind_all b rs) ≡ Binder.bind_all formulas nodes relink_by (as_bound b) (map Binder.fresh rs)
unfolding bind_all Binder.bind_all
all_same b [] = refl
all_same b (r ∷ rs) = all_same (bind_one b r) rs ∙ ap (λ (c : Binder.Bound formulas nodes relink_by). Binder.bind_all formulas nodes relink_by c (map Binder.fresh rs)) (one_same b r)

-- the records' forms, and that their links are earlier
pub forms-same : (fs : List Form) (rs : List Node) → decode formulas nodes fs rs ≡ fs ++ Binder.record_forms formulas nodes fs (map Binder.fresh rs)
unfolding decode_from Binder.record_forms Binder.record_form
forms-same fs [] = sym (append-nil fs)
forms-same fs (r ∷ rs) =
    forms-same (fs ++ (build r (form_at formulas nodes fs) ∷ [])) rs
    ∙ append_assoc fs (build r (form_at formulas nodes fs) ∷ []) (Binder.record_forms formulas nodes (fs ++ (build r (form_at formulas nodes fs) ∷ [])) (map Binder.fresh rs))

pub valid_same : (i : ℕ) (rs : List Node) → AllPlaced formulas nodes i rs → Binder.Valid formulas nodes i (map Binder.fresh rs)
valid_same i [] p = tt
valid_same i (r ∷ rs) p = (p.0, valid_same (suc i) rs p.1)
