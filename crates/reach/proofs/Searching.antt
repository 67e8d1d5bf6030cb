-- What holds between two steps of a search, and that the marks are right at its end.
use Rattle.std.proofs.Common.{◌≡◌, ℕ, ◌+◌, ◌<◌, ◌≤◌, List, [], ◌∷◌, ◌++◌, length, replicate, Bool, true, false, ◌⊎◌, inl, inr, refl, sym, ap, ◌∙◌, subst, arith, slice_get, Some, get_or, length-append}
use Rattle.std.proofs.lemmas.List.{length-replicate, get_or_default}
use Rattle.std.proofs.lemmas.Option.{slice_get_within, slice_get-get_or}
use Rattle.std.specs.List.{All}
use Rattle.reach.specs.Marks.{HopsTo, HopsWithin, IsReached, Marks}
use Rattle.reach.specs.Searches.{IsMarked, IsAmong, unmarked, Spread}
use Rattle.reach.proofs.ChainLaws.{leads_itself, leads_on, leads_least}
use Rattle.reach.proofs.Lists.{among_front, among_behind, among_either, among_one, among_none, unmarked_none, none_marked}

-- a marked node is reached, and it waits or was followed
pub record Searching (hops : List (List ℕ)) (roots : List ℕ) (marks : List Bool) (waiting : List ℕ) : Type 0 where
  pub size : length marks ≡ length hops
  pub reached : (node : ℕ) → IsMarked marks node → IsReached hops roots node
  pub rooted : (node : ℕ) → IsAmong roots node → IsMarked marks node
  pub waits : (node : ℕ) → IsAmong waiting node → IsMarked marks node
  pub followed : (node : ℕ) → IsMarked marks node → IsAmong waiting node ⊎ ((to : ℕ) → HopsTo hops node to → IsMarked marks to)
  pub room : unmarked marks + length waiting ≤ length hops

-- after the roots
pub search_begins : (hops : List (List ℕ)) (roots : List ℕ) (marks : List Bool) (waiting : List ℕ) → Spread (replicate (length hops) false) [] roots marks waiting → Searching hops roots marks waiting
search_begins hops roots marks waiting s = record {
  size = s.size ∙ length-replicate (length hops) false;
  reached = λ n h. elim (s.only n h) [ inl m ↦ absurd (none_marked (length hops) n m) | inr r ↦ (n, r.0, r.1, leads_itself (HopsTo hops) n) ];
  rooted = s.all;
  waits = λ n h. elim (s.comes n h) [ inl m ↦ absurd (among_none n m) | inr r ↦ s.all n r ];
  followed = λ n h. elim (s.fresh n h) [ inl m ↦ absurd (none_marked (length hops) n m) | inr w ↦ inl w ];
  room = let r = s.room in let u = unmarked_none (length hops) in omega arith;
}

-- after the roots, from a search as it is made
pub search_begun : (hops : List (List ℕ)) (roots : List ℕ) (size : ℕ) (no_marks marks : List Bool) (none waiting : List ℕ) → size ≡ length hops → no_marks ≡ replicate size false → none ≡ [] → Spread no_marks none roots marks waiting → Searching hops roots marks waiting
search_begun hops roots size no_marks marks none waiting counted blank empty s =
    let P : List Bool → Type 0 = λ ms. Spread ms [] roots marks waiting in
    let Q : List ℕ → Type 0 = λ ws. Spread no_marks ws roots marks waiting in
    search_begins hops roots marks waiting (subst P (blank ∙ ap (λ n. replicate n false) counted) (subst Q empty s))

-- a node that waits is one of the graph
pub waits_within : (hops : List (List ℕ)) (roots : List ℕ) (marks : List Bool) (waiting rest : List ℕ) (node : ℕ) → Searching hops roots marks waiting → waiting ≡ rest ++ node ∷ [] → node < length hops
waits_within hops roots marks waiting rest node s e =
    let P : List ℕ → Type 0 = λ ws. IsAmong ws node in
    let low = slice_get_within marks node true (s.waits node (subst P (sym e) (among_behind rest (node ∷ []) node (0, refl)))) in
    let size = s.size in
    omega arith

-- a row that is read through a slice
pub row_read : (hops : List (List ℕ)) (node : ℕ) (targets row : List ℕ) → node < length hops → targets ≡ row → row ≡ get_or hops node row → targets ≡ get_or hops node targets
row_read hops node targets row low same read = same ∙ read ∙ get_or_default hops node row targets low

-- the nodes that a node hops to have marks to be set
pub targets_within : (hops : List (List ℕ)) (roots : List ℕ) (marks rest_marks : List Bool) (waiting : List ℕ) (node : ℕ) (targets : List ℕ) → Searching hops roots marks waiting → HopsWithin hops → rest_marks ≡ marks → node < length hops → targets ≡ get_or hops node targets → All (λ to. to < length rest_marks) targets
targets_within hops roots marks rest_marks waiting node targets s within same low read k d lt =
    let is : slice_get hops node ≡ Some targets = slice_get-get_or hops node targets low ∙ ap Some (sym read) in
    let lower = within node (get_or targets k d) (targets, k, is, slice_get-get_or targets k d lt) in
    let size = s.size in
    let kept = ap length same in
    omega arith

-- one hop on
reached_on : (hops : List (List ℕ)) (roots : List ℕ) (from to : ℕ) → IsReached hops roots from → HopsTo hops from to → IsReached hops roots to
reached_on hops roots from to r h = (r.0, r.1, r.2, leads_on (HopsTo hops) r.0 from to r.3 h)

-- after the last of those that waited was followed
module _ (hops : List (List ℕ)) (roots : List ℕ) (marks : List Bool) (waiting : List ℕ) (node : ℕ) (targets : List ℕ) (is : slice_get hops node ≡ Some targets) (new_marks : List Bool) (new_waiting : List ℕ) (was : Searching hops roots marks (waiting ++ node ∷ [])) (s : Spread marks waiting targets new_marks new_waiting) where
  here : IsMarked marks node
  here = was.waits node (among_behind waiting (node ∷ []) node (0, refl))

  reached_new : (n : ℕ) → IsMarked marks n ⊎ IsAmong targets n → IsReached hops roots n
  reached_new n (inl m) = was.reached n m
  reached_new n (inr t) = reached_on hops roots node n (was.reached node here) (targets, t.0, is, t.1)

  -- the node's own targets are marked now
  own : (to : ℕ) → HopsTo hops node to → IsMarked new_marks to
  own to h = s.all to (h.1, ap (λ (ts : List ℕ). slice_get ts h.1) same ∙ h.3) where
    same : targets ≡ h.0
    same = let e = h.2 in cc

  followed_old : (n : ℕ) → IsAmong (waiting ++ node ∷ []) n ⊎ ((to : ℕ) → HopsTo hops n to → IsMarked marks to) → IsAmong new_waiting n ⊎ ((to : ℕ) → HopsTo hops n to → IsMarked new_marks to)
  followed_old n (inl w) = elim (among_either waiting (node ∷ []) n w) [ inl o ↦ inl (s.waits n o) | inr e ↦ inr (let P : ℕ → Type 0 = λ k. (to : ℕ) → HopsTo hops k to → IsMarked new_marks to in subst P (among_one node n e) own) ]
  followed_old n (inr f) = inr (λ to h. s.kept to (f to h))

  pub search_goes_on : Searching hops roots new_marks new_waiting
  search_goes_on = record {
    size = s.size ∙ was.size;
    reached = λ n h. reached_new n (s.only n h);
    rooted = λ n h. s.kept n (was.rooted n h);
    waits = λ n h. elim (s.comes n h) [ inl o ↦ s.kept n (was.waits n (among_front waiting (node ∷ []) n o)) | inr t ↦ s.all n t ];
    followed = λ n h. elim (s.fresh n h) [ inl m ↦ followed_old n (was.followed n m) | inr w ↦ inl w ];
    room = let r = s.room in let o = was.room in let l = length-append waiting (node ∷ []) in omega arith;
  }

-- the same, with the row as it is read, and what waited as one list
pub search_followed : (hops : List (List ℕ)) (roots : List ℕ) (marks rest_marks new_marks : List Bool) (waiting rest new_waiting : List ℕ) (node : ℕ) (targets : List ℕ) → Searching hops roots marks waiting → waiting ≡ rest ++ node ∷ [] → rest_marks ≡ marks → targets ≡ get_or hops node targets → Spread rest_marks rest targets new_marks new_waiting → Searching hops roots new_marks new_waiting
search_followed hops roots marks rest_marks new_marks waiting rest new_waiting node targets was e same read s =
    let P : List ℕ → Type 0 = Searching hops roots marks in
    let Q : List Bool → Type 0 = λ ms. Spread ms rest targets new_marks new_waiting in
    let low = waits_within hops roots marks waiting rest node was e in
    let is : slice_get hops node ≡ Some targets = slice_get-get_or hops node targets low ∙ ap Some (sym read) in
    search_goes_on hops roots marks rest node targets is new_marks new_waiting (subst P e was) (subst Q same s)

-- where none waits, the marks are right
pub search_ends : (hops : List (List ℕ)) (roots : List ℕ) (marks : List Bool) (waiting : List ℕ) → Searching hops roots marks waiting → waiting ≡ [] → Marks hops roots marks
search_ends hops roots marks waiting s empty = record {
  size = s.size;
  reached = s.reached;
  whole = λ n r. leads_least (HopsTo hops) (IsMarked marks) closed r.0 n (s.rooted r.0 (r.1, r.2)) r.3;
} where
  none : (a : ℕ) → IsAmong waiting a → ⊥
  none a w = let P : List ℕ → Type 0 = λ ws. IsAmong ws a in among_none a (subst P empty w)

  closed : (a b : ℕ) → IsMarked marks a → HopsTo hops a b → IsMarked marks b
  closed a b m h = elim (s.followed a m) [ inl w ↦ absurd (none a w) | inr f ↦ f b h ]
