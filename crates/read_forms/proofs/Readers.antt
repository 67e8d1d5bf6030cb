-- What each reading function keeps, and how it passes to functions made of others.
use Rattle.std.proofs.Common.{◌≡◌, ℕ, List, [], ◌∷◌, ◌++◌, length, Option, Some, None, Result, Ok, Err, refl, sym, ap, ◌∙◌, subst, append_assoc}
use Rattle.ir_core.specs.Tokens.{Lexeme}
use Rattle.ir_core.specs.Spell.{SameNext, any}
use Rattle.ir_core.specs.Spell as G
use Rattle.read_forms.specs.Read.{Read, then_read, ◌>>=◌, done, made, one_at, head, by_form, pick}

-- the tokens read spell the value, and any rest that goes on with the same token is left as it is
pub record Taken {X : Type 0} (f : Read X) (S : List Lexeme → X → Type 0) (ts : List Lexeme) (x : X) (rest : List Lexeme) : Type 0 where
  pub front : List Lexeme
  pub is : ts ≡ front ++ rest
  pub spelled : S front x
  pub same : (other : List Lexeme) → SameNext rest other → f (front ++ other) ≡ Ok (x, other)

-- the tokens before the one that stops can be completed, and whatever goes on with the same token stops there
pub record Halted {X : Type 0} (f : Read X) (S : List Lexeme → X → Type 0) (ts : List Lexeme) (n : ℕ) : Type 0 where
  pub front : List Lexeme
  pub rest : List Lexeme
  pub is : ts ≡ front ++ rest
  pub left : length rest ≡ n
  pub more : List Lexeme
  pub value : X
  pub goes_on : S (front ++ more) value
  pub same : (other : List Lexeme) → SameNext rest other → f (front ++ other) ≡ Err (length other)

-- f reads what S spells, where F holds of the rest
pub record Reads {X : Type 0} (f : Read X) (S : List Lexeme → X → Type 0) (F : List Lexeme → Type 0) : Type 0 where
  pub takes : (ts : List Lexeme) (x : X) (rest : List Lexeme) → f ts ≡ Ok (x, rest) → Taken f S ts x rest
  pub halts : (ts : List Lexeme) (n : ℕ) → f ts ≡ Err n → Halted f S ts n
  pub only : (front rest : List Lexeme) (x : X) → S front x → F rest → f (front ++ rest) ≡ Ok (x, rest)
  pub some : List Lexeme
  pub value : X
  pub spelled : S some value

-- any rest
abbrev pub Free : List Lexeme → Type 0
Free ts = Unit {0}

pub same_front : (front rest other : List Lexeme) → SameNext rest other → SameNext (front ++ rest) (front ++ other)
same_front [] rest other s = s
same_front (t ∷ front) rest other s = refl

pub same_head : (rest other : List Lexeme) → SameNext rest other → head rest ≡ head other
same_head [] [] s = refl
same_head [] (u ∷ us) s = absurd s
same_head (t ∷ ts) [] s = absurd s
same_head (t ∷ ts) (u ∷ us) s = ap Some s

-- ---- nothing, and one token
pub ok_parts : {A : Type 0} (x y : A) (r s : List Lexeme) → ◌≡◌ {A = Result (A × List Lexeme) ℕ} (Ok (x, r)) (Ok (y, s)) → (x ≡ y) × (r ≡ s)
ok_parts {A} x y r s e = let p : ◌≡◌ {A = A × List Lexeme} (x, r) (y, s) = cc in (ap (λ q. q.0) p, ap (λ q. q.1) p)

pub ok_not_err : {A : Type 0} (p : A) (n : ℕ) → ◌≡◌ {A = Result A ℕ} (Ok p) (Err n) → ⊥
ok_not_err p n e = cc

pub err_is : {A : Type 0} (m n : ℕ) → ◌≡◌ {A = Result A ℕ} (Err m) (Err n) → m ≡ n
err_is m n e = cc

pub done_reads : {X : Type 0} (v : X) → Reads (done v) (G.done v) Free
done_reads v = record {
  takes = λ ts x rest e. let p = ok_parts v x ts rest e in record { front = []; is = p.1; spelled = (refl, sym p.0); same = λ other s. ap (λ y. Ok (y, other)) p.0 };
  halts = λ ts n e. absurd (ok_not_err (v, ts) n e);
  only = λ front rest x s f. ap (λ (l : List Lexeme). done v (l ++ rest)) s.0 ∙ ap (λ y. Ok (y, rest)) (sym s.1);
  some = [];
  value = v;
  spelled = (refl, refl);
}

-- a test of one token is exact
pub record Tests {X : Type 0} (f : Lexeme → Option X) (is : Lexeme → X → Type 0) : Type 0 where
  pub found : (t : Lexeme) (x : X) → f t ≡ Some x → is t x
  pub only : (t : Lexeme) (x : X) → is t x → f t ≡ Some x
  pub some : Lexeme
  pub value : X
  pub holds : is some value

module _ {X : Type 0} (f : Lexeme → Option X) (is : Lexeme → X → Type 0) (tests : Tests f is) where
  one_takes : (t : Lexeme) (more : List Lexeme) (o : Option X) → f t ≡ o → (x : X) (rest : List Lexeme) → made o t more ≡ Ok (x, rest) → Taken (one_at f) (G.one is) (t ∷ more) x rest
  one_takes t more None h x rest e = absurd (ok_not_err (x, rest) _ (sym e))
  one_takes t more (Some y) h x rest e =
      let p = ok_parts y x more rest e in
      record {
        front = t ∷ [];
        is = ap (λ (l : List Lexeme). t ∷ l) p.1;
        spelled = (t, tests.found t x (h ∙ ap Some p.0), refl);
        same = λ other s. ap (λ (o : Option X). made o t other) (h ∙ ap Some p.0);
      }

  one_stops : (rest other : List Lexeme) → SameNext rest other → (n : ℕ) → one_at f rest ≡ Err n → one_at f other ≡ Err (length other)
  one_stops [] [] s n e = refl
  one_stops [] (u ∷ us) s n e = absurd s
  one_stops (t ∷ ts) [] s n e = absurd s
  one_stops (t ∷ ts) (u ∷ us) s n e = by_result (f t) refl
    where
      by_result : (o : Option X) → f t ≡ o → one_at f (u ∷ us) ≡ Err (length (u ∷ us))
      by_result None h = ap (λ (o : Option X). made o u us) (ap f (sym s) ∙ h)
      by_result (Some y) h = absurd (ok_not_err (y, ts) n (ap (λ (o : Option X). made o t ts) (sym h) ∙ e))

  one_place : (ts : List Lexeme) (n : ℕ) → one_at f ts ≡ Err n → length ts ≡ n
  one_place [] n e = err_is 0 n e
  one_place (t ∷ ts) n e = by_result (f t) refl
    where
      by_result : (o : Option X) → f t ≡ o → length (t ∷ ts) ≡ n
      by_result None h = err_is (length (t ∷ ts)) n (ap (λ (o : Option X). made o t ts) (sym h) ∙ e)
      by_result (Some y) h = absurd (ok_not_err (y, ts) n (ap (λ (o : Option X). made o t ts) (sym h) ∙ e))

  one_all : (ts : List Lexeme) (x : X) (rest : List Lexeme) → one_at f ts ≡ Ok (x, rest) → Taken (one_at f) (G.one is) ts x rest
  one_all [] x rest e = absurd (ok_not_err (x, rest) 0 (sym e))
  one_all (t ∷ more) x rest e = one_takes t more (f t) refl x rest e

  pub one_reads : Reads (one_at f) (G.one is) Free
  one_reads = record {
    takes = one_all;
    halts = λ ts n e. record { front = []; rest = ts; is = refl; left = one_place ts n e; more = tests.some ∷ []; value = tests.value; goes_on = (tests.some, tests.holds, refl); same = λ other s. one_stops ts other s n e };
    only = λ front rest x s free. ap (λ (l : List Lexeme). one_at f (l ++ rest)) s.2 ∙ ap (λ (o : Option X). made o s.0 rest) (tests.only s.0 x s.1);
    some = tests.some ∷ [];
    value = tests.value;
    spelled = (tests.some, tests.holds, refl);
  }

-- ---- one after the other
module _ {X Y : Type 0} (f : Read X) (S : List Lexeme → X → Type 0) (F : List Lexeme → Type 0) (g : X → Read Y) (T : X → List Lexeme → Y → Type 0) (H : List Lexeme → Type 0) where
  abbrev both : List Lexeme → Y → Type 0
  both = G.◌>>=◌ S T

  then_takes : Reads f S F → ((x : X) → Reads (g x) (T x) H) → (ts : List Lexeme) (r : Result (X × List Lexeme) ℕ) → f ts ≡ r → (y : Y) (rest : List Lexeme) → then_read r g ≡ Ok (y, rest) → Taken (f >>= g) both ts y rest
  then_takes a b ts (Err n) h y rest e = absurd (ok_not_err (y, rest) n (sym e))
  then_takes a b ts (Ok p) h y rest e =
      let u = a.takes ts p.0 p.1 h in
      let v = (b p.0).takes p.1 y rest e in
      record {
        front = u.front ++ v.front;
        is = u.is ∙ ap (λ (l : List Lexeme). u.front ++ l) v.is ∙ sym (append_assoc u.front v.front rest);
        spelled = (p.0, u.front, v.front, u.spelled, v.spelled, refl);
        same = λ other s.
            ap (f >>= g) (append_assoc u.front v.front other)
            ∙ ap (λ (r : Result (X × List Lexeme) ℕ). then_read r g) (u.same (v.front ++ other) (subst (λ l. SameNext l (v.front ++ other)) (sym v.is) (same_front v.front rest other s)))
            ∙ v.same other s;
      }

  then_halts : Reads f S F → ((x : X) → Reads (g x) (T x) H) → (ts : List Lexeme) (r : Result (X × List Lexeme) ℕ) → f ts ≡ r → (n : ℕ) → then_read r g ≡ Err n → Halted (f >>= g) both ts n
  then_halts a b ts (Err m) h n e =
      let u = a.halts ts n (h ∙ ap Err (err_is m n e)) in
      record {
        front = u.front;
        rest = u.rest;
        is = u.is;
        left = u.left;
        more = u.more ++ (b u.value).some;
        value = (b u.value).value;
        goes_on = (u.value, u.front ++ u.more, (b u.value).some, u.goes_on, (b u.value).spelled, sym (append_assoc u.front u.more (b u.value).some));
        same = λ other s. ap (λ (r : Result (X × List Lexeme) ℕ). then_read r g) (u.same other s);
      }
  then_halts a b ts (Ok p) h n e =
      let u = a.takes ts p.0 p.1 h in
      let v = (b p.0).halts p.1 n e in
      record {
        front = u.front ++ v.front;
        rest = v.rest;
        is = u.is ∙ ap (λ (l : List Lexeme). u.front ++ l) v.is ∙ sym (append_assoc u.front v.front v.rest);
        left = v.left;
        more = v.more;
        value = v.value;
        goes_on = (p.0, u.front, v.front ++ v.more, u.spelled, v.goes_on, append_assoc u.front v.front v.more);
        same = λ other s.
            ap (f >>= g) (append_assoc u.front v.front other)
            ∙ ap (λ (r : Result (X × List Lexeme) ℕ). then_read r g) (u.same (v.front ++ other) (subst (λ l. SameNext l (v.front ++ other)) (sym v.is) (same_front v.front v.rest other s)))
            ∙ v.same other s;
      }

  then_only : Reads f S F → ((x : X) → Reads (g x) (T x) H) → ((x : X) (front rest : List Lexeme) (y : Y) → T x front y → H rest → F (front ++ rest)) → (front rest : List Lexeme) (y : Y) → both front y → H rest → (f >>= g) (front ++ rest) ≡ Ok (y, rest)
  then_only a b fits front rest y s k =
      ap (λ (l : List Lexeme). (f >>= g) (l ++ rest)) s.5
      ∙ ap (f >>= g) (append_assoc s.1 s.2 rest)
      ∙ ap (λ (r : Result (X × List Lexeme) ℕ). then_read r g) (a.only s.1 (s.2 ++ rest) s.0 s.3 (fits s.0 s.2 rest y s.4 k))
      ∙ (b s.0).only s.2 rest y s.4 k

  pub then_reads_where : Reads f S F → ((x : X) → Reads (g x) (T x) H) → ((x : X) (front rest : List Lexeme) (y : Y) → T x front y → H rest → F (front ++ rest)) → Reads (f >>= g) both H
  then_reads_where a b fits = record {
    takes = λ ts y rest e. then_takes a b ts (f ts) refl y rest e;
    halts = λ ts n e. then_halts a b ts (f ts) refl n e;
    only = then_only a b fits;
    some = a.some ++ (b a.value).some;
    value = (b a.value).value;
    spelled = (a.value, a.some, (b a.value).some, a.spelled, (b a.value).spelled, refl);
  }

pub then_reads : {X Y : Type 0} {f : Read X} {S : List Lexeme → X → Type 0} {g : X → Read Y} {T : X → List Lexeme → Y → Type 0} {H : List Lexeme → Type 0} → Reads f S Free → ((x : X) → Reads (g x) (T x) H) → Reads (f >>= g) (G.◌>>=◌ S T) H
then_reads {f = f} {S = S} {g = g} {T = T} {H = H} a b = then_reads_where f S Free g T H a b (λ x front rest y t k. tt)

-- ---- by what comes first
-- each text begins with such a token
abbrev pub Begins : {X : Type 0} → (List Lexeme → X → Type 0) → (Lexeme → Type 0) → Type 0
Begins {X} S P = (front : List Lexeme) (x : X) → S front x → (t : Lexeme) × (more : List Lexeme) × P t × (front ≡ t ∷ more)

pub one_begins : {X : Type 0} (is : Lexeme → X → Type 0) (P : Lexeme → Type 0) → ((t : Lexeme) (x : X) → is t x → P t) → Begins (G.one is) P
one_begins is P all front x s = (s.0, [], all s.0 x s.1, s.2)

pub then_begins : {X Y : Type 0} (S : List Lexeme → X → Type 0) (T : X → List Lexeme → Y → Type 0) (P : Lexeme → Type 0) → Begins S P → Begins (G.◌>>=◌ S T) P
then_begins S T P b front y s = let u = b s.1 s.0 s.3 in (u.0, u.1 ++ s.2, u.2, s.5 ∙ ap (λ (l : List Lexeme). l ++ s.2) u.3)

pub any_begins : {K X : Type 0} (S : K → List Lexeme → X → Type 0) (P : Lexeme → Type 0) → ((k : K) → Begins (S k) P) → Begins (any S) P
any_begins S P b front x s = b s.0 front x s.1

module _ {K X : Type 0} (form : Option Lexeme → Option K) (f : K → Read X) (S : K → List Lexeme → X → Type 0) (F : List Lexeme → Type 0) where
  pick_takes : ((k : K) → Reads (f k) (S k) F) → (ts : List Lexeme) (o : Option K) → form (head ts) ≡ o → (x : X) (rest : List Lexeme) → by_form f o ts ≡ Ok (x, rest) → Taken (pick form f) (any S) ts x rest
  pick_takes r ts None h x rest e = absurd (ok_not_err (x, rest) _ (sym e))
  pick_takes r ts (Some k) h x rest e =
      let u = (r k).takes ts x rest e in
      record {
        front = u.front;
        is = u.is;
        spelled = (k, u.spelled);
        same = λ other s.
            ap (λ (o : Option K). by_form f o (u.front ++ other)) (ap form (sym (ap head u.is ∙ same_head (u.front ++ rest) (u.front ++ other) (same_front u.front rest other s))) ∙ h)
            ∙ u.same other s;
      }

  pick_halts : ((k : K) → Reads (f k) (S k) F) → K → (ts : List Lexeme) (o : Option K) → form (head ts) ≡ o → (n : ℕ) → by_form f o ts ≡ Err n → Halted (pick form f) (any S) ts n
  pick_halts r k ts None h n e = record {
    front = [];
    rest = ts;
    is = refl;
    left = err_is (length ts) n e;
    more = (r k).some;
    value = (r k).value;
    goes_on = (k, (r k).spelled);
    same = λ other s. ap (λ (o : Option K). by_form f o other) (ap form (sym (same_head ts other s)) ∙ h);
  }
  pick_halts r _ ts (Some k) h n e =
      let u = (r k).halts ts n e in
      record {
        front = u.front;
        rest = u.rest;
        is = u.is;
        left = u.left;
        more = u.more;
        value = u.value;
        goes_on = (k, u.goes_on);
        same = λ other s.
            ap (λ (o : Option K). by_form f o (u.front ++ other)) (ap form (sym (ap head u.is ∙ same_head (u.front ++ u.rest) (u.front ++ other) (same_front u.front u.rest other s))) ∙ h)
            ∙ u.same other s;
      }

  pub pick_reads : ((k : K) → Reads (f k) (S k) F) → ((k : K) → Begins (S k) (λ t. form (Some t) ≡ Some k)) → K → Reads (pick form f) (any S) F
  pick_reads r b k = record {
    takes = λ ts x rest e. pick_takes r ts (form (head ts)) refl x rest e;
    halts = λ ts n e. pick_halts r k ts (form (head ts)) refl n e;
    only = λ front rest x s h.
        let u = b s.0 front x s.1 in
        ap (λ (o : Option K). by_form f o (front ++ rest)) (ap (λ (l : List Lexeme). form (head (l ++ rest))) u.3 ∙ u.2) ∙ (r s.0).only front rest x s.1 h;
    some = (r k).some;
    value = (r k).value;
    spelled = (k, (r k).spelled);
  }

-- where fewer rests are allowed
pub reads_before : {X : Type 0} {f : Read X} {S : List Lexeme → X → Type 0} {F : List Lexeme → Type 0} (H : List Lexeme → Type 0) → ((ts : List Lexeme) → H ts → F ts) → Reads f S F → Reads f S H
reads_before H w r = record { takes = r.takes; halts = r.halts; only = λ front rest x s h. r.only front rest x s (w rest h); some = r.some; value = r.value; spelled = r.spelled }

-- ---- the same texts, said in another way
pub reads_as : {X : Type 0} (f : Read X) (S T : List Lexeme → X → Type 0) (F : List Lexeme → Type 0) → Reads f S F → ((ts : List Lexeme) (x : X) → S ts x → T ts x) → ((ts : List Lexeme) (x : X) → T ts x → S ts x) → Reads f T F
reads_as f S T F r a b = record {
  takes = λ ts x rest e. let t = r.takes ts x rest e in record { front = t.front; is = t.is; spelled = a t.front x t.spelled; same = t.same };
  halts = λ ts n e. let h = r.halts ts n e in record { front = h.front; rest = h.rest; is = h.is; left = h.left; more = h.more; value = h.value; goes_on = a (h.front ++ h.more) h.value h.goes_on; same = h.same };
  only = λ front rest x s h. r.only front rest x (b front x s) h;
  some = r.some;
  value = r.value;
  spelled = a r.some r.value r.spelled;
}
