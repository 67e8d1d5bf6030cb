-- Rows of marks: made place by place, read off a search, and read at a place.
use Rattle.std.proofs.Common.{◌≡◌, ◌↔◌, ℕ, zero, suc, ◌+◌, ◌<◌, ◌≤◌, List, [], ◌∷◌, ◌++◌, length, length-append, Bool, true, Some, slice_get, get_or, ◌⊎◌, inl, inr, refl, sym, ap, subst, ◌∙◌, arith}
use Rattle.std.proofs.lemmas.Bool.{cases_eq}
use Rattle.std.proofs.lemmas.Option.{slice_get-get_or}
use Rattle.reach.specs.Chains.{Leads}
use Rattle.reach.specs.Marks.{HopsTo, Marks}
use Rattle.reach.proofs.ChainLaws.{leads_as}
use Rattle.call_graph.specs.Graphs.{IsGraphOf, AreMarksOf}
use Rattle.call_graph.proofs.ListLaws.{last_is}
use Rattle.call_paths.specs.Known.{IsRowOf, AreRowsOf}
use Rattle.call_paths.specs.Rows.{IsMarkedIn}

-- ---- an item at the end of a list

stays : {A : Type 0} (xs : List A) (x y : A) (k : ℕ) → slice_get xs k ≡ Some y → slice_get (xs ++ x ∷ []) k ≡ Some y
stays [] x y k e = let f : ⊥ = cc in absurd f
stays (z ∷ zs) x y zero e = e
stays (z ∷ zs) x y (suc k) e = stays zs x y k e

last_there : {A : Type 0} (xs : List A) (x : A) → slice_get (xs ++ x ∷ []) (length xs) ≡ Some x
last_there [] x = refl
last_there (z ∷ zs) x = last_there zs x

before_or_last : {A : Type 0} (xs : List A) (x y : A) (k : ℕ) → slice_get (xs ++ x ∷ []) k ≡ Some y → (slice_get xs k ≡ Some y) ⊎ ((k ≡ length xs) × (x ≡ y))
before_or_last [] x y zero e = inr (refl, cc)
before_or_last [] x y (suc k) e = let f : ⊥ = cc in absurd f
before_or_last (z ∷ zs) x y zero e = inl e
before_or_last (z ∷ zs) x y (suc k) e = elim (before_or_last zs x y k e) [ inl h ↦ inl h | inr h ↦ inr (ap suc h.0, h.1) ]

-- ---- marks that are made one by one

module _ (P : ℕ → Type 0) where
  -- a place before this one that has the property
  abbrev pub Below : ℕ → ℕ → Type 0
  Below n at = (at < n) × P at

  pub marks_none : AreMarksOf (Below 0) 0 []
  marks_none = record { size = refl; same = λ at. (λ h. let f : ⊥ = cc in absurd f, λ h. let low = h.0 in absurd (omega (arith, low))) }

  module _ (n : ℕ) (marks : List Bool) (mark : Bool) (are : AreMarksOf (Below n) n marks) (is : (mark ≡ true) ↔ P n) where
    marked : (at : ℕ) → (slice_get marks at ≡ Some true) ⊎ ((at ≡ length marks) × (mark ≡ true)) → Below (n + 1) at
    marked at (inl h) = let k = (are.same at).0 h in (omega (arith, k.0), k.1)
    marked at (inr h) = let e : at ≡ n = h.0 ∙ are.size in (omega (arith, e), subst P (sym e) (is.0 h.1))

    has_mark : (at : ℕ) → Below (n + 1) at → (at ≡ n) ⊎ (at ≡ n → ⊥) → slice_get (marks ++ mark ∷ []) at ≡ Some true
    has_mark at h (inl e) = ap (slice_get (marks ++ mark ∷ [])) (e ∙ sym are.size) ∙ last_there marks mark ∙ ap Some (is.1 (subst P e h.1))
    has_mark at h (inr other) = stays marks mark true at ((are.same at).1 (omega (arith, h.0, other), h.1))

    pub marks_next : AreMarksOf (Below (n + 1)) (n + 1) (marks ++ mark ∷ [])
    marks_next = record {
      size = let size = are.size in let longer = length-append marks (mark ∷ []) in omega (arith, size, longer);
      same = λ at. (λ h. marked at (before_or_last marks mark true at h), λ h. has_mark at h (cases_eq at n));
    }

  -- the marks of all places that can have the property are a row
  pub row_whole : (places n : ℕ) (marks : List Bool) → ((at : ℕ) → P at → at < places) → places ≤ n → AreMarksOf (Below n) n marks → IsRowOf P marks
  row_whole places n marks within all are at = (λ h. ((are.same at).0 h).1, λ h. (are.same at).1 (let low = within at h in omega (arith, low, all), h))

-- ---- rows that are made one by one

pub rows_none : (Holds : ℕ → ℕ → Type 0) → AreRowsOf Holds 0 []
rows_none Holds = record { size = refl; same = λ from row h. let f : ⊥ = cc in absurd f }

pub rows_next : (Holds : ℕ → ℕ → Type 0) (n : ℕ) (rows : List (List Bool)) (row : List Bool) → AreRowsOf Holds n rows → IsRowOf (Holds n) row → AreRowsOf Holds (n + 1) (rows ++ row ∷ [])
rows_next Holds n rows row are is = record {
  size = let size = are.size in let longer = length-append rows (row ∷ []) in omega (arith, size, longer);
  same = λ from other h. either from other (before_or_last rows row other from h);
} where
  either : (from : ℕ) (other : List Bool) → (slice_get rows from ≡ Some other) ⊎ ((from ≡ length rows) × (row ≡ other)) → IsRowOf (Holds from) other
  either from other (inl h) = are.same from other h
  either from other (inr h) =
      let P : ℕ → Type 0 = λ k. IsRowOf (Holds k) other in
      let Q : List Bool → Type 0 = λ r. IsRowOf (Holds n) r in
      subst P (sym (h.0 ∙ are.size)) (subst Q h.1 is)

-- ---- rows of a graph's chains

-- the marks of a search from one place
pub row_of : (hops : List (List ℕ)) (from : ℕ) (marks : List Bool) → Marks hops (from ∷ []) marks → IsRowOf (Leads (HopsTo hops) from) marks
row_of hops from marks found at = (λ h. begun (found.reached at h), λ h. found.whole at (from, 0, refl, h)) where
  begun : (root : ℕ) × (place : ℕ) × (slice_get (from ∷ []) place ≡ Some root) × Leads (HopsTo hops) root at → Leads (HopsTo hops) from at
  begun r = let P : ℕ → Type 0 = λ k. Leads (HopsTo hops) k at in subst P (last_is from r.0 (r.1, r.2)) r.3

module _ (Hop : ℕ → ℕ → Type 0) (nodes : ℕ) (hops : List (List ℕ)) (graph : IsGraphOf Hop nodes hops) where
  -- its chains are those of the relation
  pub row_as : (from : ℕ) (row : List Bool) → IsRowOf (Leads (HopsTo hops) from) row → IsRowOf (Leads Hop from) row
  row_as from row is at = (
    λ h. leads_as (HopsTo hops) Hop (λ a b. (graph.same a b).0) from at ((is at).0 h),
    λ h. (is at).1 (leads_as Hop (HopsTo hops) (λ a b. (graph.same a b).1) from at h),
  )

  pub rows_as : (rows : List (List Bool)) → AreRowsOf (Leads (HopsTo hops)) (length hops) rows → AreRowsOf (Leads Hop) nodes rows
  rows_as rows are = record { size = are.size ∙ graph.size; same = λ from row h. row_as from row (are.same from row h) }

-- ---- a mark that is read

-- whether a row has a mark is whether the relation holds, where it holds from places with rows alone
pub mark_read : (Holds : ℕ → ℕ → Type 0) (places : ℕ) (rows : List (List Bool)) → AreRowsOf Holds places rows → (from to : ℕ) (mark : Bool) → (Holds from to → from < places) → (mark ≡ true) ↔ IsMarkedIn rows from to → (mark ≡ true) ↔ Holds from to
mark_read Holds places rows are from to mark within is = (λ e. let h = is.0 e in (are.same from h.0 h.1 to).0 h.2, λ h. is.1 (found h)) where
  found : Holds from to → IsMarkedIn rows from to
  found h =
      let low = within h in
      let size = are.size in
      let there = slice_get-get_or rows from [] (omega (arith, low, size)) in
      (get_or rows from [], there, (are.same from (get_or rows from []) there to).1 h)
