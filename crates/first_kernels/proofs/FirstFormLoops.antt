-- Making the assignments of a kernel one after the other, as a loop does.
use Rattle.std.proofs.Common.{◌≡◌, ℕ, ◌+◌, ◌<◌, ◌≤◌, List, [], ◌∷◌, ◌++◌, length, get_or, drop, map, Option, Some, None, refl, ap, sym, ◌∙◌, append_assoc}
use Rattle.std.specs.Prelude.{option_map}
use Rattle.std.proofs.lemmas.List.{drop_more, drop_all, append-nil, map_push}
use Rattle.ocl_program.specs.Shapes.{stmt_node, typed_stmts}
use Rattle.ocl_program.specs.declared.stmts.TypedStmt.{TypedStmt}
use Rattle.first_kernels.specs.declared.tree.Assignment.{Assignment}
use Rattle.first_kernels.specs.declared.unread.Unread.{Unread}
use Rattle.first_kernels.specs.declared.unread.Unread.TheVariants.{Memory, OtherForm}
use Rattle.first_kernels.specs.FirstForms.{Fails, assignment_from, assignments_from, followed}
use Rattle.first_kernels.specs.FirstTree.{Assigns, assigns_of}

-- the assignments of those statements behind these
abbrev pub behind : List Assigns → Option (List Assigns) → Option (List Assigns)
behind front more = option_map (λ all. front ++ all) more

-- what there is in the whole, once those before statement k have been made
abbrev pub Makes : ℕ → List TypedStmt → ℕ → List Assigns → Type 0
Makes n body k front = behind front (assignments_from n (typed_stmts (drop k body))) ≡ assignments_from n (typed_stmts body)

pub none_yet : (n : ℕ) (body : List TypedStmt) → Makes n body 0 []
none_yet n body = same (assignments_from n (typed_stmts body))
  where
    same : (o : Option (List Assigns)) → behind [] o ≡ o
    same (Some all) = refl
    same None = refl

regrouped : (front : List Assigns) (a : Assigns) (more : Option (List Assigns)) → behind front (followed (Some a) more) ≡ behind (front ++ a ∷ []) more
regrouped front a (Some all) = ap (λ (xs : List Assigns). Some xs) (sym (append_assoc front (a ∷ []) all))
regrouped front a None = refl

cut : (body : List TypedStmt) (k : ℕ) (s : TypedStmt) → k < length body → s ≡ get_or body k s → drop k body ≡ s ∷ drop (k + 1) body
cut body k s below is_s = drop_more body k s below ∙ ap (λ (x : TypedStmt). x ∷ drop (k + 1) body) (sym is_s)

pub one_more : (n : ℕ) (body : List TypedStmt) (k : ℕ) (front front' : List Assignment) (s : TypedStmt) (a : Assignment) → k < length body → s ≡ get_or body k s
    → assignment_from n (stmt_node s) ≡ Some (assigns_of a) → front' ≡ front ++ a ∷ [] → Makes n body k (map assigns_of front) → Makes n body (k + 1) (map assigns_of front')
one_more n body k front front' s a below is_s made pushed before =
    let rest : Option (List Assigns) = assignments_from n (typed_stmts (drop (k + 1) body)) in
    let here : assignments_from n (typed_stmts (drop k body)) ≡ followed (Some (assigns_of a)) rest =
    ap (λ xs. assignments_from n (typed_stmts xs)) (cut body k s below is_s) ∙ ap (λ o. followed o rest) made in
    let grown : map assigns_of front' ≡ map assigns_of front ++ assigns_of a ∷ [] = ap (map assigns_of) pushed ∙ map_push assigns_of front a in
    ap (λ f. behind f rest) grown ∙ sym (regrouped (map assigns_of front) (assigns_of a) rest) ∙ sym (ap (behind (map assigns_of front)) here) ∙ before

pub no_more : (n : ℕ) (body : List TypedStmt) (k : ℕ) (front : List Assigns) (s : TypedStmt) (e : Unread) → k < length body → s ≡ get_or body k s
    → Fails e (assignment_from n (stmt_node s)) → Makes n body k front → Fails e (assignments_from n (typed_stmts body))
no_more n body k front s Memory below is_s fails before = tt
no_more n body k front s OtherForm below is_s fails before =
    let rest : Option (List Assigns) = assignments_from n (typed_stmts (drop (k + 1) body)) in
    let here : assignments_from n (typed_stmts (drop k body)) ≡ None =
    ap (λ xs. assignments_from n (typed_stmts xs)) (cut body k s below is_s) ∙ ap (λ o. followed o rest) fails in
    sym before ∙ ap (behind front) here

pub all_made : (n : ℕ) (body : List TypedStmt) (k : ℕ) (front : List Assigns) → length body ≤ k → Makes n body k front → assignments_from n (typed_stmts body) ≡ Some front
all_made n body k front over before =
    let here : assignments_from n (typed_stmts (drop k body)) ≡ Some [] = ap (λ xs. assignments_from n (typed_stmts xs)) (drop_all k body over) in
    sym before ∙ ap (behind front) here ∙ ap (λ (xs : List Assigns). Some xs) (append-nil front)
