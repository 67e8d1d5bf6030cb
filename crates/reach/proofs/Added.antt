-- What a graph has once a hop is added to it.
use Rattle.std.proofs.Common.{◌≡◌, ℕ, zero, suc, ◌<◌, List, [], ◌∷◌, ◌++◌, length, replicate, ◌⊎◌, ◌↔◌, inl, inr, sym, ap, ◌∙◌, subst, arith, slice_set, slice_get, slice_index_or, Some, get_or}
use Rattle.std.proofs.lemmas.Bool.{cases_eq}
use Rattle.std.proofs.lemmas.List.{length-set}
use Rattle.std.proofs.lemmas.Option.{slice_get-get_or}
use Rattle.reach.specs.Marks.{HopsTo, HopsWithin, hop_added}
use Rattle.reach.specs.Searches.{IsAmong}
use Rattle.reach.proofs.Lists.{get_set, get_other, among_front, among_behind, among_either, among_one}

-- in a graph without hops
pub no_hops : (n from to : ℕ) → HopsTo (replicate n []) from to → ⊥
no_hops n from to h = none n from h.0 h.1 h.2 h.3 where
  none : (n from : ℕ) (targets : List ℕ) (place : ℕ) → slice_get (replicate n []) from ≡ Some targets → slice_get targets place ≡ Some to → ⊥
  none zero from targets place e f = let g : ⊥ = cc in g
  none (suc n) zero targets place e f =
      let same : [] ≡ targets = cc in
      let found : ◌≡◌ (slice_get [] place) (Some to) = ap (λ (ts : List ℕ). slice_get ts place) same ∙ f in
      let g : ⊥ = cc in g
  none (suc n) (suc from) targets place e f = none n from targets place e f

pub within_none : (n : ℕ) → HopsWithin (replicate n [])
within_none n from to h = absurd (no_hops n from to h)

-- a graph in which one node's hops are others
module _ (hops : List (List ℕ)) (at : ℕ) (row : List ℕ) (low : at < length hops) where
  row_at : (from to : ℕ) → (from ≡ at) ⊎ (from ≡ at → ⊥) → HopsTo (slice_set hops at row) from to → HopsTo hops from to ⊎ ((from ≡ at) × IsAmong row to)
  row_at from to (inl e) h =
      let found : slice_get (slice_set hops at row) from ≡ Some row = ap (slice_get (slice_set hops at row)) e ∙ get_set hops at row low in
      let stands = h.2 in
      let same : h.0 ≡ row = cc in
      inr (e, (h.1, ap (λ (ts : List ℕ). slice_get ts h.1) (sym same) ∙ h.3))
  row_at from to (inr other) h = inl (h.0, h.1, sym (get_other hops at from row other) ∙ h.2, h.3)

  -- a hop of it is one of the graph before, or one of the node's new ones
  pub row_set : (from to : ℕ) → HopsTo (slice_set hops at row) from to → HopsTo hops from to ⊎ ((from ≡ at) × IsAmong row to)
  row_set from to h = row_at from to (cases_eq from at) h

  pub row_new : (to : ℕ) → IsAmong row to → HopsTo (slice_set hops at row) at to
  row_new to h = (row, h.0, get_set hops at row low, h.1)

  pub within_set : HopsWithin hops → ((to : ℕ) → IsAmong row to → to < length hops) → HopsWithin (slice_set hops at row)
  within_set within ok from to h =
      let size = length-set hops at row in
      let lower : to < length hops = elim (row_set from to h) [ inl o ↦ within from to o | inr n ↦ ok to n.1 ] in
      omega arith

-- the node's row as it is read, and the row that is put in its place
module _ (hops : List (List ℕ)) (at : ℕ) (read row : List ℕ) (low : at < length hops) (is : read ≡ get_or hops at read) (within : HopsWithin hops) where
  stands : slice_get hops at ≡ Some read
  stands = slice_get-get_or hops at read low ∙ ap Some (sym is)

  was_within : (to : ℕ) → IsAmong read to → to < length hops
  was_within to h = within at to (read, h.0, stands, h.1)

  pub within_kept : row ≡ read → HopsWithin (slice_set hops at row)
  within_kept e = within_set hops at row low within (λ to h. was_within to (let P : List ℕ → Type 0 = λ ts. IsAmong ts to in subst P e h))

  pub within_pushed : (target : ℕ) → target < length hops → row ≡ read ++ target ∷ [] → HopsWithin (slice_set hops at row)
  within_pushed target lower e = within_set hops at row low within (λ to h. either to (among_either read (target ∷ []) to (let P : List ℕ → Type 0 = λ ts. IsAmong ts to in subst P e h))) where
    either : (to : ℕ) → IsAmong read to ⊎ IsAmong (target ∷ []) to → to < length hops
    either to (inl o) = was_within to o
    either to (inr n) = let P : ℕ → Type 0 = λ t. t < length hops in subst P (among_one target to n) lower

-- one more hop
module _ (hops : List (List ℕ)) (from to : ℕ) (low : from < length hops) where
  abbrev row : List ℕ
  row = slice_index_or hops from []

  there : slice_get hops from ≡ Some row
  there = slice_get-get_or hops from [] low

  old : (b : ℕ) → IsAmong row b → HopsTo hops from b
  old b h = (row, h.0, there, h.1)

  added_at : (a b : ℕ) → HopsTo hops a b → (a ≡ from) ⊎ (a ≡ from → ⊥) → HopsTo (hop_added hops from to) a b
  added_at a b h (inl e) =
      let stands = h.2 in
      let found : slice_get hops a ≡ Some row = ap (slice_get hops) e ∙ there in
      let same : h.0 ≡ row = cc in
      let P : ℕ → Type 0 = λ c. HopsTo (hop_added hops from to) c b in
      subst P (sym e) (row_new hops from (row ++ to ∷ []) low b (among_front row (to ∷ []) b (h.1, ap (λ (ts : List ℕ). slice_get ts h.1) (sym same) ∙ h.3)))
  added_at a b h (inr other) = (h.0, h.1, get_other hops from a (row ++ to ∷ []) other ∙ h.2, h.3)

  added_to : (a b : ℕ) → HopsTo hops a b ⊎ ((a ≡ from) × (b ≡ to)) → HopsTo (hop_added hops from to) a b
  added_to a b (inl h) = added_at a b h (cases_eq a from)
  added_to a b (inr e) =
      let P : ℕ → Type 0 = λ c. HopsTo (hop_added hops from to) c b in
      subst P (sym e.0) (row_new hops from (row ++ to ∷ []) low b (among_behind row (to ∷ []) b (0, ap Some (sym e.1))))

  added_from : (a b : ℕ) → HopsTo (hop_added hops from to) a b → HopsTo hops a b ⊎ ((a ≡ from) × (b ≡ to))
  added_from a b h = elim (row_set hops from (row ++ to ∷ []) low a b h) [ inl o ↦ inl o | inr n ↦ of a b n.0 (among_either row (to ∷ []) b n.1) ] where
    of : (a b : ℕ) → a ≡ from → IsAmong row b ⊎ IsAmong (to ∷ []) b → HopsTo hops a b ⊎ ((a ≡ from) × (b ≡ to))
    of a b e (inl o) = let P : ℕ → Type 0 = λ c. HopsTo hops c b in inl (subst P (sym e) (old b o))
    of a b e (inr n) = inr (e, sym (among_one to b n))

  -- the hops are those before and the new one
  pub hops_added : (a b : ℕ) → HopsTo (hop_added hops from to) a b ↔ (HopsTo hops a b ⊎ ((a ≡ from) × (b ≡ to)))
  hops_added a b = (added_from a b, added_to a b)
