-- What stands behind an instruction: attachments, behind commas.
use Rattle.std.proofs.Common.{◌≡◌, ℕ, List, [], ◌∷◌, ◌++◌, Option, Some, Bool, false, refl, sym, ap, ◌∙◌, subst, inl, inr, ◌⊎◌, append_assoc}
use Rattle.std.proofs.lemmas.List.{append-nil}
use Rattle.ir_core.specs.Tokens.{Lexeme}
use Rattle.ir_core.specs.Spell.{Spell, any, many, mark}
use Rattle.ir_core.specs.Spell as spell
use Rattle.ir_core.specs.Forms.{maybe, next}
use Rattle.ir_core.specs.Instructions.{attachment, attachments}
use Rattle.read_forms.specs.Read.{Read, ◌>>=◌, done, head}
use Rattle.read_forms.proofs.Readers.{Reads, Free, Begins, done_reads, then_reads_where, reads_before, reads_as}
use Rattle.read_forms.proofs.Many.{Stops}
use Rattle.read_forms.proofs.Choices.{either}
use Rattle.read_ends.specs.Ends.{closed}

-- no attachment, and one more
pub none_attached : attachments [] tt
none_attached = ([], [], [], refl, (refl, refl), refl)

pub one_attached : (a b : List Lexeme) → next attachment a tt → attachments b tt → attachments (a ++ b) tt
one_attached a b n s = (tt ∷ s.0, a ++ s.1, s.2, (a, s.1, n, s.3, refl), s.4, ap (λ (l : List Lexeme). a ++ l) s.5 ∙ sym (append_assoc a s.1 s.2))

-- there is none, or a first one
abbrev pub FirstAttached : List Lexeme → Type 0
FirstAttached b = (b ≡ []) ⊎ ((p q : List Lexeme) × next attachment p tt × attachments q tt × (b ≡ p ++ q))

first_of : (xs : List (Unit {0})) (a z b : List Lexeme) → many (next attachment) a xs → z ≡ [] → b ≡ a ++ z → FirstAttached b
first_of [] a z b m k e = inl (e ∙ ap (λ (l : List Lexeme). l ++ z) m ∙ k)
first_of (x ∷ xs) a z b m k e = inr (m.0, m.1 ++ z, m.2, (xs, m.1, z, m.3, (k, refl), refl), e ∙ ap (λ (l : List Lexeme). l ++ z) m.4 ∙ append_assoc m.0 m.1 z)

pub first_attached : (b : List Lexeme) → attachments b tt → FirstAttached b
first_attached b s = first_of s.0 s.1 s.2 b s.3 s.4.0 s.5

-- a form and its attachments, as two parts of the tokens
abbrev pub Shut : {X : Type 0} → Spell X → Spell X
Shut S ts x = (a b : List Lexeme) × S a x × attachments b tt × (ts ≡ a ++ b)

pub opened : {X : Type 0} (S : Spell X) (ts : List Lexeme) (x : X) → closed S ts x → Shut S ts x
opened S ts x s =
    let u = s.4 in
    (s.1, u.1, subst (S s.1) (sym u.4.1) s.3, u.3, s.5 ∙ ap (λ (l : List Lexeme). s.1 ++ l) (u.5 ∙ ap (λ (l : List Lexeme). u.1 ++ l) u.4.0 ∙ append-nil u.1))

pub shut : {X : Type 0} (S : Spell X) (ts : List Lexeme) (x : X) → Shut S ts x → closed S ts x
shut S ts x s = (x, s.0, s.1, s.2, (tt, s.1, [], s.3, (refl, refl), sym (append-nil s.1)), s.4)

-- ---- a form and its attachments are read together
-- a part before the last
module _ {X Y : Type 0} (f : Read X) (P : Spell X) (F : List Lexeme → Type 0) (g : X → Read Y) (T : X → Spell Y) (H : List Lexeme → Type 0) where
  then_shut : (ts : List Lexeme) (y : Y) → spell.◌>>=◌ P (λ x. closed (T x)) ts y → closed (spell.◌>>=◌ P T) ts y
  then_shut ts y s =
      let u = opened (T s.0) s.2 y s.4 in
      shut (spell.◌>>=◌ P T) ts y (s.1 ++ u.0, u.1, (s.0, s.1, u.0, s.3, u.2, refl), u.3, s.5 ∙ ap (λ (l : List Lexeme). s.1 ++ l) u.4 ∙ sym (append_assoc s.1 u.0 u.1))

  then_open : (ts : List Lexeme) (y : Y) → closed (spell.◌>>=◌ P T) ts y → spell.◌>>=◌ P (λ x. closed (T x)) ts y
  then_open ts y s =
      let u = opened (spell.◌>>=◌ P T) ts y s in
      let v = u.2 in
      (v.0, v.1, v.2 ++ u.1, v.3, shut (T v.0) (v.2 ++ u.1) y (v.2, u.1, v.4, u.3, refl), u.4 ∙ ap (λ (l : List Lexeme). l ++ u.1) v.5 ∙ append_assoc v.1 v.2 u.1)

  pub closed_then_where : Reads f P F → ((x : X) → Reads (g x) (closed (T x)) H) → ((x : X) (front rest : List Lexeme) (y : Y) → closed (T x) front y → H rest → F (front ++ rest)) → Reads (f >>= g) (closed (spell.◌>>=◌ P T)) H
  closed_then_where a b fits = reads_as (f >>= g) (spell.◌>>=◌ P (λ x. closed (T x))) (closed (spell.◌>>=◌ P T)) H (then_reads_where f P F g (λ x. closed (T x)) H a b fits) then_shut then_open

pub closed_then : {X Y : Type 0} {f : Read X} {P : Spell X} {g : X → Read Y} {T : X → Spell Y} {H : List Lexeme → Type 0} → Reads f P Free → ((x : X) → Reads (g x) (closed (T x)) H) → Reads (f >>= g) (closed (spell.◌>>=◌ P T)) H
closed_then {f = f} {P = P} {g = g} {T = T} {H = H} a b = closed_then_where f P Free g T H a b (λ x front rest y t k. tt)

-- what begins in this way alone
pub closed_begins : {X : Type 0} (S : Spell X) (P : Lexeme → Type 0) → Begins S P → Begins (closed S) P
closed_begins S P b front x s = let u = opened S front x s in let v = b u.0 x u.2 in (v.0, v.1 ++ u.1, v.2, u.4 ∙ ap (λ (l : List Lexeme). l ++ u.1) v.3)

-- behind what may go on with some tokens come others
pub closed_stop_then : {X Y : Type 0} (p : Option Lexeme → Bool) {f : Read X} {P : Spell X} {g : X → Read Y} {T : X → Spell Y} {H : List Lexeme → Type 0} → Reads f P (Stops p) → ((x : X) → Reads (g x) (closed (T x)) H) → ((x : X) → Begins (T x) (λ t. p (Some t) ≡ false)) → Reads (f >>= g) (closed (spell.◌>>=◌ P T)) H
closed_stop_then p {f = f} {P = P} {g = g} {T = T} {H = H} a b c =
    closed_then_where f P (Stops p) g T H a b (λ x front rest y s k. let u = closed_begins (T x) _ (c x) front y s in ap (λ (l : List Lexeme). p (head (l ++ rest))) u.3 ∙ u.2)

-- one of several forms
module _ {K X : Type 0} (f : Read X) (S : K → Spell X) (F : List Lexeme → Type 0) where
  any_shut : (ts : List Lexeme) (x : X) → any (λ k. closed (S k)) ts x → closed (any S) ts x
  any_shut ts x s = let u = opened (S s.0) ts x s.1 in shut (any S) ts x (u.0, u.1, (s.0, u.2), u.3, u.4)

  any_open : (ts : List Lexeme) (x : X) → closed (any S) ts x → any (λ k. closed (S k)) ts x
  any_open ts x s = let u = opened (any S) ts x s in (u.2.0, shut (S u.2.0) ts x (u.0, u.1, u.2.1, u.3, u.4))

  pub closed_any : Reads f (any (λ k. closed (S k))) F → Reads f (closed (any S)) F
  closed_any r = reads_as f (any (λ k. closed (S k))) (closed (any S)) F r any_shut any_open

-- the one or the other
module _ {X : Type 0} (f : Read X) (S T : Spell X) (F : List Lexeme → Type 0) where
  either_shut : (ts : List Lexeme) (x : X) → either (closed S) (closed T) ts x → closed (either S T) ts x
  either_shut ts x (inl s) = let u = opened S ts x s in shut (either S T) ts x (u.0, u.1, inl u.2, u.3, u.4)
  either_shut ts x (inr s) = let u = opened T ts x s in shut (either S T) ts x (u.0, u.1, inr u.2, u.3, u.4)

  open_by : (ts : List Lexeme) (x : X) (a b : List Lexeme) → either S T a x → attachments b tt → ts ≡ a ++ b → either (closed S) (closed T) ts x
  open_by ts x a b (inl s) t e = inl (shut S ts x (a, b, s, t, e))
  open_by ts x a b (inr s) t e = inr (shut T ts x (a, b, s, t, e))

  pub closed_either : Reads f (either (closed S) (closed T)) F → Reads f (closed (either S T)) F
  closed_either r = reads_as f (either (closed S) (closed T)) (closed (either S T)) F r either_shut (λ ts x s. let u = opened (either S T) ts x s in open_by ts x u.0 u.1 u.2 u.3 u.4)

-- what is made of a form
module _ {X Y : Type 0} (f : Read X) (S : Spell X) (F : List Lexeme → Type 0) (v : X → Y) where
  abbrev making : Spell Y
  making = spell.◌>>=◌ (closed S) (λ x. spell.done (v x))

  makes : Reads f (closed S) F → Reads (f >>= λ x. done (v x)) making F
  makes r = then_reads_where f (closed S) F (λ x. done (v x)) (λ x. spell.done (v x)) F r (λ x. reads_before F (λ ts h. tt) (done_reads (v x))) (λ x front rest y s k. subst (λ l. F (l ++ rest)) (sym s.0) k)

  made_shut : (ts : List Lexeme) (y : Y) → making ts y → closed (spell.◌>>=◌ S (λ x. spell.done (v x))) ts y
  made_shut ts y s =
      let u = opened S s.1 s.0 s.3 in
      shut (spell.◌>>=◌ S (λ x. spell.done (v x))) ts y
      (u.0, u.1, (s.0, u.0, [], u.2, (refl, s.4.1), sym (append-nil u.0)), u.3, s.5 ∙ ap (λ (l : List Lexeme). s.1 ++ l) s.4.0 ∙ append-nil s.1 ∙ u.4)

  made_open : (ts : List Lexeme) (y : Y) → closed (spell.◌>>=◌ S (λ x. spell.done (v x))) ts y → making ts y
  made_open ts y s =
      let u = opened (spell.◌>>=◌ S (λ x. spell.done (v x))) ts y s in
      let w = u.2 in
      (w.0, ts, [], shut S ts w.0 (w.1, u.1, w.3, u.3, u.4 ∙ ap (λ (l : List Lexeme). l ++ u.1) (w.5 ∙ ap (λ (l : List Lexeme). w.1 ++ l) w.4.0 ∙ append-nil w.1)), (refl, w.4.1), sym (append-nil ts))

  pub closed_made : Reads f (closed S) F → Reads (f >>= λ x. done (v x)) (closed (spell.◌>>=◌ S (λ x. spell.done (v x)))) F
  closed_made r = reads_as (f >>= λ x. done (v x)) making (closed (spell.◌>>=◌ S (λ x. spell.done (v x)))) F (makes r) made_shut made_open

  -- said with the attachments before the value
  abbrev ending : Spell Y
  ending = spell.◌>>=◌ S (λ x. spell.◌>>=◌ attachments (λ b. spell.done (v x)))

  to_ending : (ts : List Lexeme) (y : Y) → making ts y → ending ts y
  to_ending ts y s =
      let u = opened S s.1 s.0 s.3 in
      (s.0, u.0, u.1, u.2, (tt, u.1, [], u.3, (refl, s.4.1), sym (append-nil u.1)), s.5 ∙ ap (λ (l : List Lexeme). s.1 ++ l) s.4.0 ∙ append-nil s.1 ∙ u.4)

  from_ending : (ts : List Lexeme) (y : Y) → ending ts y → making ts y
  from_ending ts y s =
      let u = s.4 in
      (s.0, ts, [], shut S ts s.0 (s.1, s.2, s.3, subst (λ l. attachments l tt) (sym (u.5 ∙ ap (λ (l : List Lexeme). u.1 ++ l) u.4.0 ∙ append-nil u.1)) u.3, s.5), (refl, u.4.1), sym (append-nil ts))

  pub ending_reads : Reads f (closed S) F → Reads (f >>= λ x. done (v x)) ending F
  ending_reads r = reads_as (f >>= λ x. done (v x)) making ending F (makes r) to_ending from_ending

-- ---- what shares its comma with the attachments
abbrev pub attached : {X : Type 0} → X → Spell X
attached v = spell.◌>>=◌ attachment (λ u. spell.◌>>=◌ attachments (λ b. spell.done v))

pub attached_all : {X : Type 0} (v x : X) (c r : List Lexeme) (line : ℕ) → mark 44 c line → attached v r x → attachments (c ++ r) tt × (x ≡ v)
attached_all v x c r line m s =
    let u = s.4 in
    let all = one_attached (c ++ s.1) u.1 (line, c, s.1, m, s.3, refl) u.3 in
    let same : (c ++ s.1) ++ u.1 ≡ c ++ r = append_assoc c s.1 u.1 ∙ ap (λ (l : List Lexeme). c ++ l) (sym (s.5 ∙ ap (λ (l : List Lexeme). s.1 ++ l) (u.5 ∙ ap (λ (l : List Lexeme). u.1 ++ l) u.4.0 ∙ append-nil u.1))) in
    (subst (λ l. attachments l tt) same all, u.4.1)

pub all_attached : {X : Type 0} (v x : X) (r q : List Lexeme) → attachment r tt → attachments q tt → x ≡ v → attached v (r ++ q) x
all_attached v x r q a b e = (tt, r, q, a, (tt, q, [], b, (refl, e), sym (append-nil q)), refl)

-- an absent form, an attachment, or the form
abbrev pub by_comma : {X : Type 0} → X → Spell X → Spell X
by_comma v A = maybe v (next (either (attached v) A))

-- no form: nothing, or attachments
pub by_comma_none : {X : Type 0} (v : X) (A : Spell X) (ts b : List Lexeme) → ts ≡ b → FirstAttached b → by_comma v A ts v
by_comma_none v A ts b k (inl h) = inl (k ∙ h, refl)
by_comma_none v A ts b k (inr h) =
    let n = h.2 in
    inr (n.0, n.1, n.2 ++ h.1, n.3, inl (all_attached v v n.2 h.1 n.4 h.3 refl), k ∙ h.4 ∙ ap (λ (l : List Lexeme). l ++ h.1) n.5 ∙ append_assoc n.1 n.2 h.1)

module _ {X : Type 0} (v : X) (A : Spell X) where
  comma_shut : (ts : List Lexeme) (x : X) → by_comma v (closed A) ts x → closed (maybe v (next A)) ts x
  comma_shut ts x (inl s) = shut (maybe v (next A)) ts x ([], [], inl (refl, s.1), none_attached, s.0)
  comma_shut ts x (inr s) = by_form s.4
    where
      by_form : either (attached v) (closed A) s.2 x → closed (maybe v (next A)) ts x
      by_form (inl h) = let u = attached_all v x s.1 s.2 s.0 s.3 h in shut (maybe v (next A)) ts x ([], s.1 ++ s.2, inl (refl, u.1), u.0, s.5)
      by_form (inr h) =
          let u = opened A s.2 x h in
          shut (maybe v (next A)) ts x (s.1 ++ u.0, u.1, inr (s.0, s.1, u.0, s.3, u.2, refl), u.3, s.5 ∙ ap (λ (l : List Lexeme). s.1 ++ l) u.4 ∙ sym (append_assoc s.1 u.0 u.1))

  open_form : (ts a b : List Lexeme) (x : X) → maybe v (next A) a x → attachments b tt → ts ≡ a ++ b → by_comma v (closed A) ts x
  open_form ts a b x (inl s) t e = subst (λ y. by_comma v (closed A) ts y) (sym s.1) (by_comma_none v (closed A) ts b (e ∙ ap (λ (l : List Lexeme). l ++ b) s.0) (first_attached b t))
  open_form ts a b x (inr s) t e = inr (s.0, s.1, s.2 ++ b, s.3, inr (shut A (s.2 ++ b) x (s.2, b, s.4, t, refl)), e ∙ ap (λ (l : List Lexeme). l ++ b) s.5 ∙ append_assoc s.1 s.2 b)

  pub closed_maybe : (f : Read X) (F : List Lexeme → Type 0) → Reads f (by_comma v (closed A)) F → Reads f (closed (maybe v (next A))) F
  closed_maybe f F r = reads_as f (by_comma v (closed A)) (closed (maybe v (next A))) F r comma_shut (λ ts x s. let u = opened (maybe v (next A)) ts x s in open_form ts u.0 u.1 x u.2 u.3 u.4)
