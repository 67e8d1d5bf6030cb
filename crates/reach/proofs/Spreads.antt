-- How a search spreads: over no node, over one, over more.
use Rattle.std.proofs.Common.{◌≡◌, ℕ, ◌+◌, ◌<◌, List, [], ◌∷◌, ◌++◌, length, Bool, true, false, cond, ◌⊎◌, inl, inr, refl, sym, ap, ◌∙◌, subst, arith, slice_set, slice_get, Some, take, get_or, length-append}
use Rattle.std.proofs.lemmas.Bool.{cases_eq}
use Rattle.std.proofs.lemmas.List.{length-set, take_more}
use Rattle.std.proofs.lemmas.Option.{slice_get_within, slice_get-get_or}
use Rattle.reach.specs.Searches.{IsMarked, IsAmong, Spread}
use Rattle.reach.proofs.Lists.{get_set, get_other, among_front, among_behind, among_either, among_one, among_none, unmarked_less}

pub spread_none : (marks : List Bool) (waiting : List ℕ) → Spread marks waiting [] marks waiting
spread_none marks waiting = record {
  size = refl;
  kept = λ n h. h;
  all = λ n h. absurd (among_none n h);
  only = λ n h. inl h;
  fresh = λ n h. inl h;
  waits = λ n h. h;
  comes = λ n h. inl h;
  room = refl;
}

-- a node that has a mark changes nothing
pub spread_marked : (marks : List Bool) (waiting : List ℕ) (node : ℕ) → IsMarked marks node → Spread marks waiting (node ∷ []) marks waiting
spread_marked marks waiting node is = record {
  size = refl;
  kept = λ n h. h;
  all = λ n h. let P : ℕ → Type 0 = IsMarked marks in subst P (among_one node n h) is;
  only = λ n h. inl h;
  fresh = λ n h. inl h;
  waits = λ n h. h;
  comes = λ n h. inl h;
  room = refl;
}

module _ (marks : List Bool) (waiting : List ℕ) (node : ℕ) (is : slice_get marks node ≡ Some false) where
  low : node < length marks
  low = slice_get_within marks node false is

  kept_at : (n : ℕ) → (n ≡ node) ⊎ (n ≡ node → ⊥) → IsMarked marks n → IsMarked (slice_set marks node true) n
  kept_at n (inl e) h = let f : ⊥ = cc in absurd f
  kept_at n (inr other) h = get_other marks node n true other ∙ h

  only_at : (n : ℕ) → (n ≡ node) ⊎ (n ≡ node → ⊥) → IsMarked (slice_set marks node true) n → IsMarked marks n ⊎ (n ≡ node)
  only_at n (inl e) h = inr e
  only_at n (inr other) h = inl (sym (get_other marks node n true other) ∙ h)

  among_at : (n : ℕ) → n ≡ node → IsAmong (node ∷ []) n
  among_at n e = (0, ap Some (sym e))

  -- a node without a mark gets one, and waits
  pub spread_fresh : Spread marks waiting (node ∷ []) (slice_set marks node true) (waiting ++ node ∷ [])
  spread_fresh = record {
    size = length-set marks node true;
    kept = λ n h. kept_at n (cases_eq n node) h;
    all = λ n h. let P : ℕ → Type 0 = IsMarked (slice_set marks node true) in subst P (among_one node n h) (get_set marks node true low);
    only = λ n h. elim (only_at n (cases_eq n node) h) [ inl m ↦ inl m | inr e ↦ inr (among_at n e) ];
    fresh = λ n h. elim (only_at n (cases_eq n node) h) [ inl m ↦ inl m | inr e ↦ inr (among_behind waiting (node ∷ []) n (among_at n e)) ];
    waits = λ n h. among_front waiting (node ∷ []) n h;
    comes = λ n h. among_either waiting (node ∷ []) n h;
    room = let r = unmarked_less marks node is in let l = length-append waiting (node ∷ []) in omega arith;
  }

-- over some nodes, and then over more
pub spread_then : (a b c : List Bool) (u v w xs ys : List ℕ) → Spread a u xs b v → Spread b v ys c w → Spread a u (xs ++ ys) c w
spread_then a b c u v w xs ys p q = record {
  size = q.size ∙ p.size;
  kept = λ n h. q.kept n (p.kept n h);
  all = λ n h. elim (among_either xs ys n h) [ inl f ↦ q.kept n (p.all n f) | inr s ↦ q.all n s ];
  only = λ n h. elim (q.only n h) [ inl m ↦ elim (p.only n m) [ inl o ↦ inl o | inr f ↦ inr (among_front xs ys n f) ] | inr s ↦ inr (among_behind xs ys n s) ];
  fresh = λ n h. elim (q.fresh n h) [ inl m ↦ elim (p.fresh n m) [ inl o ↦ inl o | inr f ↦ inr (q.waits n f) ] | inr s ↦ inr s ];
  waits = λ n h. q.waits n (p.waits n h);
  comes = λ n h. elim (q.comes n h) [ inl m ↦ elim (p.comes n m) [ inl o ↦ inl o | inr f ↦ inr (among_front xs ys n f) ] | inr s ↦ inr (among_behind xs ys n s) ];
  room = q.room ∙ p.room;
}

-- one node more of those in a list
pub spread_more : (a b c : List Bool) (u v w xs : List ℕ) (i : ℕ) → i < length xs → Spread a u (take i xs) b v → Spread b v (get_or xs i 0 ∷ []) c w → Spread a u (take (i + 1) xs) c w
spread_more a b c u v w xs i low p q =
    let P : List ℕ → Type 0 = λ ys. Spread a u ys c w in
    subst P (sym (take_more xs i 0 low)) (spread_then a b c u v w (take i xs) (get_or xs i 0 ∷ []) p q)

-- ---- what a mark and a push give

pub mark_read : (marks : List Bool) (node : ℕ) (mark b : Bool) → node < length marks → mark ≡ get_or marks node mark → mark ≡ b → slice_get marks node ≡ Some b
mark_read marks node mark b low read is = slice_get-get_or marks node mark low ∙ ap Some (sym read ∙ is)

pub pushed_whole : (xs ys zs : List ℕ) (b : Bool) → b ≡ true → zs ≡ cond b ys xs → zs ≡ ys
pushed_whole xs ys zs true is e = e
pushed_whole xs ys zs false is e = let f : ⊥ = cc in absurd f
