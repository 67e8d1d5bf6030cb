-- A type that is given once is the one of its name.
use Rattle.std.proofs.Common.{◌≡◌, ℕ, zero, suc, List, [], ◌∷◌, map, Option, Some, None, option_map, is_some, Bool, true, false, cond, filter, refl, sym, ap, ◌∙◌, if◌then◌else◌}
use Rattle.std.specs.Prelude.{slice_get}
use Rattle.std.specs.List.{find}
use Rattle.std.specs.Str.{bytes_eq}
use Rattle.std.proofs.lemmas.Option.{none-some, same_Some}
use Rattle.std.proofs.lemmas.Slice.Eq.{bytes_eq-Decides}
use Rattle.ir_core.specs.declared.refusal.Construct.TheVariants.{DuplicateName}
use Rattle.ir_core.specs.declared.types.Ty.{Ty}
use Rattle.ir_core.specs.declared.module.TypeDef.{TypeDef}
use Rattle.ir_core.specs.Given.{type_given}
use Rattle.ir_core.specs.Layout.{body_of, only_one}
use Rattle.ir_core.specs.NameRefusals.{at, repeated}
use Rattle.ir_core.specs.Places.{Name}
use Rattle.ir_core.specs.Wrappers.{is_in}
use Rattle.accepted_laws.proofs.Nothing.{not_both, something, front_none, back_none}
use Rattle.accepted_laws.proofs.Clean.{type_entry}
use Rattle.accepted_laws.proofs.Distinct.{in_first, in_more}

-- ---- what a name is given as

pub record GivenAs (types : List TypeDef) (x : Name) : Type 0 where
  pub place : ℕ
  pub type_ : TypeDef
  pub there : slice_get types place ≡ Some type_
  pub name : type_.name ≡ x
  pub body : type_given types x ≡ Some type_.body

find_there : (x : Name) (ds : List TypeDef) (d : TypeDef) → find (λ c. bytes_eq c.name x) ds ≡ Some d → (place : ℕ) × (slice_get ds place ≡ Some d) × (d.name ≡ x)
find_there x [] d e = absurd (none-some d e)
find_there x (c ∷ ds) d e = by (bytes_eq c.name x) refl e (find_there x ds d)
  where
    Found : Type 0
    Found = (place : ℕ) × (slice_get (c ∷ ds) place ≡ Some d) × (d.name ≡ x)

    behind : (place : ℕ) × (slice_get ds place ≡ Some d) × (d.name ≡ x) → Found
    behind r = (suc r.0, r.1, r.2)

    by : (b : Bool) → bytes_eq c.name x ≡ b → cond b (Some c) (find (λ f. bytes_eq f.name x) ds) ≡ Some d → (find (λ f. bytes_eq f.name x) ds ≡ Some d → (place : ℕ) × (slice_get ds place ≡ Some d) × (d.name ≡ x)) → Found
    by true h e rest = (0, e, ap (λ (f : TypeDef). f.name) (sym (same_Some c d e)) ∙ (bytes_eq-Decides c.name x).0 h)
    by false h e rest = behind (rest e)

pub given_as : (types : List TypeDef) (x : Name) → is_some (type_given types x) ≡ true → GivenAs types x
given_as types x e = by (find (λ d. bytes_eq d.name x) types) refl e
  where
    by : (o : Option TypeDef) → find (λ d. bytes_eq d.name x) types ≡ o → is_some (option_map (λ (d : TypeDef). d.body) o) ≡ true → GivenAs types x
    by None f h = not_both false h refl
    by (Some d) f h = let t = find_there x types d f in record { place = t.0; type_ = d; there = t.1; name = t.2; body = ap (option_map (λ (d : TypeDef). d.body)) f }

pub name_there : (ds : List TypeDef) (place : ℕ) (d : TypeDef) → slice_get ds place ≡ Some d → is_in (map (λ (c : TypeDef). c.name) ds) d.name ≡ true
name_there [] place d e = absurd (none-some d e)
name_there (c ∷ ds) zero d e = ap (λ (f : TypeDef). is_in (map (λ (c : TypeDef). c.name) (c ∷ ds)) f.name) (sym (same_Some c d e)) ∙ in_first c.name (map (λ (c : TypeDef). c.name) ds)
name_there (c ∷ ds) (suc place) d e = in_more c.name (map (λ (c : TypeDef). c.name) ds) d.name (name_there ds place d e)

-- ---- types that are given once

not_before : (before : List Name) (d : TypeDef) (ds : List TypeDef) → repeated before (map type_entry (d ∷ ds)) ≡ [] → is_in before d.name ≡ false
not_before before d ds e = by (is_in before d.name) (front_none (if is_in before d.name then at d.line (DuplicateName ∷ []) else []) (repeated (d.name ∷ before) (map type_entry ds)) e)
  where
    by : (b : Bool) → (if b then at d.line (DuplicateName ∷ []) else []) ≡ [] → b ≡ false
    by true h = something _ _ h
    by false h = refl

others : (before : List Name) (d : TypeDef) (ds : List TypeDef) → repeated before (map type_entry (d ∷ ds)) ≡ [] → repeated (d.name ∷ before) (map type_entry ds) ≡ []
others before d ds e = back_none (if is_in before d.name then at d.line (DuplicateName ∷ []) else []) (repeated (d.name ∷ before) (map type_entry ds)) e

-- of a name that is given before there are no more
none_again : (before : List Name) (x : Name) (ds : List TypeDef) → repeated before (map type_entry ds) ≡ [] → is_in before x ≡ true → filter (λ (c : TypeDef). bytes_eq c.name x) ds ≡ []
none_again before x [] e h = refl
none_again before x (d ∷ ds) e h = by (bytes_eq d.name x) refl (none_again (d.name ∷ before) x ds (others before d ds e) (in_more d.name before x h))
  where
    by : (b : Bool) → bytes_eq d.name x ≡ b → filter (λ (c : TypeDef). bytes_eq c.name x) ds ≡ [] → cond b (d ∷ filter (λ (c : TypeDef). bytes_eq c.name x) ds) (filter (λ (c : TypeDef). bytes_eq c.name x) ds) ≡ []
    by true s rest = not_both (is_in before d.name) (ap (is_in before) ((bytes_eq-Decides d.name x).0 s) ∙ h) (not_before before d ds e)
    by false s rest = rest

pub only_body : (before : List Name) (x : Name) (ds : List TypeDef) (t : Ty) → repeated before (map type_entry ds) ≡ [] → type_given ds x ≡ Some t → body_of ds x ≡ Some t
only_body before x [] t e is = absurd (none-some t is)
only_body before x (d ∷ ds) t e is = by (bytes_eq d.name x) refl is (only_body (d.name ∷ before) x ds t (others before d ds e))
  where
    by : (b : Bool) → bytes_eq d.name x ≡ b → option_map (λ (c : TypeDef). c.body) (cond b (Some d) (find (λ c. bytes_eq c.name x) ds)) ≡ Some t → (type_given ds x ≡ Some t → body_of ds x ≡ Some t) →
        only_one (cond b (d ∷ filter (λ (c : TypeDef). bytes_eq c.name x) ds) (filter (λ (c : TypeDef). bytes_eq c.name x) ds)) ≡ Some t
    by true s h rest = ap (λ l. only_one (d ∷ l)) (none_again (d.name ∷ before) x ds (others before d ds e) (ap (λ y. is_in (y ∷ before) x) ((bytes_eq-Decides d.name x).0 s) ∙ in_first x before)) ∙ h
    by false s h rest = rest h
