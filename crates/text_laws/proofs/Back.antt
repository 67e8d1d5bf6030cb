-- Texts whose tokens spell a value, and how they are put together.
use Rattle.std.proofs.Common.{◌≡◌, ℕ, ◌+◌, List, [], ◌∷◌, ◌++◌, map, false, true, refl, sym, ◌∙◌, subst, inl, inr, ◌⊎◌, codes, append_assoc}
use Rattle.std.proofs.lemmas.List.{append-nil}
use Rattle.ir_core.specs.Bytes.{Bracket, class_of}
use Rattle.ir_core.specs.Tokens.{Word, Mark, Lexeme}
use Rattle.ir_core.specs.Spell.{done, ◌>>=◌, any, many, word, mark, AtEnd, OneMore, after_comma, list_to}
use Rattle.ir_core.specs.Forms.{maybe, dropped}
use Rattle.ir_core.specs.Text.{is_word, all_led, comma_list, in_spaces, parted}
use Rattle.text_laws.specs.Spelling.{IsSpelled}
use Rattle.text_laws.proofs.Rows.{Bare, Lexed, bare}
use Rattle.text_laws.proofs.Endings.{Ends}
use Rattle.text_laws.proofs.Lexed.{is_brace, open_lexed, close_lexed}
use Rattle.text_laws.proofs.Joined.{Gives, comma, gives_none, gives_of, gives_then, closes_gives, closes_space, closes_comma, closes_mark, gives_word}
use Rattle.text_laws.proofs.Spelled.{Spelled, part, no_tokens, spelled_done, spelled_same, spelled_as, spelled_any, token_then, shows_mark, shows_word}
use Rattle.text_laws.proofs.Good.{Parts, AllGood}

-- the text is lexed as tokens that spell something with the property
pub record Back {X : Type 0} (G : List ℕ → List Bare → Type 0) (text : List ℕ) (S : List Lexeme → X → Type 0) (P : X → Type 0) : Type 0 where
  pub tokens : List Bare
  pub lexed : G text tokens
  pub spelled : Spelled S tokens P

-- before a byte that ends words the text spells the value
abbrev pub Says : {X : Type 0} → List ℕ → (List Lexeme → X → Type 0) → X → Type 0
Says text S x = Back Gives text S (λ y. y ≡ x)

-- the text is none, or begins with a byte that ends words
abbrev pub Ended : List ℕ → Type 0
Ended text = (rest : List ℕ) → Ends rest → Ends (text ++ rest)

-- the same text written otherwise
pub says_as : {X : Type 0} {a b : List ℕ} (S : List Lexeme → X → Type 0) (x : X) → a ≡ b → Says a S x → Says b S x
says_as S x e s = subst (λ t. Says t S x) e s

-- a value that is known
pub says_at : {X : Type 0} (show : X → List ℕ) (S : List Lexeme → X → Type 0) {x y : X} → y ≡ x → Says (show x) S x → Says (show y) S y
says_at show S e s = subst (λ z. Says (show z) S z) (sym e) s

-- a value and its text that are known
pub says_of : {X : Type 0} (show : X → List ℕ) (S : List Lexeme → X → Type 0) {x y : X} {a : List ℕ} → y ≡ x → show x ≡ a → Says a S x → Says (show y) S y
says_of show S {x = x} e k s = says_at show S e (says_as S x (sym k) s)

-- ---- rows of texts, grouped from the left and from the right

abbrev pub chain : List ℕ → List (List ℕ) → List ℕ
chain a [] = a
chain a (b ∷ bs) = chain (a ++ b) bs

abbrev pub row : List ℕ → List (List ℕ) → List ℕ
row a [] = a
row a (b ∷ bs) = a ++ row b bs

pub flat : (a b : List ℕ) (bs : List (List ℕ)) → chain (a ++ b) bs ≡ a ++ row b bs
flat a b [] = refl
flat a b (c ∷ cs) = flat (a ++ b) c cs ∙ append_assoc a b (row c cs)

-- ---- one behind the other

pub says_done : {X : Type 0} (x : X) → Says [] (done x) x
says_done x = record { tokens = []; lexed = gives_none; spelled = spelled_done x (λ y. y ≡ x) refl }

-- the two forms are those of a value that some tokens spell
pub back_then : {X Y : Type 0} {a b : List ℕ} {S : List Lexeme → X → Type 0} {T : X → List Lexeme → Y → Type 0} {u : Y} (p : Parts S T u) {v : X} {Q : Y → Type 0} → Says a S v → Ended b → Back Gives b (T v) Q → Back Gives (a ++ b) (S >>= T) Q
back_then {T = T} p {Q = Q} s e t = record { tokens = s.tokens ++ t.tokens; lexed = gives_then s.lexed t.lexed e; spelled = spelled_same {T = T} {ls = s.tokens} {ms = t.tokens} {Q = Q} s.spelled t.spelled }

pub says_then : {X Y : Type 0} {a b : List ℕ} {S : List Lexeme → X → Type 0} {T : X → List Lexeme → Y → Type 0} {u : Y} (p : Parts S T u) {v : X} {y : Y} → Says a S v → Ended b → Says b (T v) y → Says (a ++ b) (S >>= T) y
says_then p s e t = back_then p s e t

-- the last part
pub says_last : {X Y : Type 0} {a : List ℕ} {S : List Lexeme → X → Type 0} (f : X → Y) {v : X} → Says a S v → Says a (S >>= (λ x. done (f x))) (f v)
says_last f {v = v} s = record { tokens = s.tokens; lexed = s.lexed; spelled = spelled_as (append-nil s.tokens) (spelled_same {T = λ x. done (f x)} {ls = s.tokens} {ms = []} {Q = λ y. y ≡ f v} s.spelled (spelled_done (f v) (λ y. y ≡ f v) refl)) }

-- a part without tokens
abbrev pub Empty : {X : Type 0} → (List Lexeme → X → Type 0) → X → Type 0
Empty S v = Spelled S [] (λ y. y ≡ v)

pub says_after : {X Y : Type 0} {b : List ℕ} {S : List Lexeme → X → Type 0} {T : X → List Lexeme → Y → Type 0} {u : Y} (p : Parts S T u) {v : X} {y : Y} → Empty S v → Says b (T v) y → Says b (S >>= T) y
says_after {T = T} p {y = y} s t = record { tokens = t.tokens; lexed = t.lexed; spelled = spelled_same {T = T} {ls = []} {ms = t.tokens} {Q = λ z. z ≡ y} s t.spelled }

-- nothing where a form may stand, and none of what is dropped
pub empty_maybe : {X : Type 0} (none : X) (S : List Lexeme → X → Type 0) → Empty (maybe none S) none
empty_maybe none S = record { all = λ ts e. (none, inl (no_tokens ts e, refl), refl) }

pub empty_dropped : (S : List Lexeme → Unit {0} → Type 0) → Empty (dropped S) tt
empty_dropped S = record { all = λ ts e. (tt, ([], [], [], refl, (refl, refl), no_tokens ts e), refl) }

pub says_space : {X : Type 0} {b : List ℕ} {S : List Lexeme → X → Type 0} {x : X} → Says b S x → Says (32 ∷ b) S x
says_space s = record { tokens = s.tokens; lexed = closes_gives closes_space s.lexed; spelled = s.spelled }

pub says_mark : {X : Type 0} {b : List ℕ} {T : List Lexeme → X → Type 0} {x : X} (m : ℕ) → class_of m ≡ Bracket → is_brace m ≡ false → Says b T x → Says (m ∷ b) (mark m >>= (λ line. T)) x
says_mark m c n s = record { tokens = bare (Mark m) (m ∷ []) ∷ s.tokens; lexed = closes_gives (closes_mark m c n) s.lexed; spelled = token_then (shows_mark m) (λ line u. s.spelled) }

-- , and what comes behind it
pub says_comma : {X : Type 0} {b : List ℕ} {T : List Lexeme → X → Type 0} {x : X} → Says b T x → Says (44 ∷ 32 ∷ b) (mark 44 >>= (λ line. T)) x
says_comma s = record { tokens = comma ∷ s.tokens; lexed = closes_gives closes_comma s.lexed; spelled = token_then (shows_mark 44) (λ line u. s.spelled) }

pub says_word : {X : Type 0} {b : List ℕ} {T : List Lexeme → X → Type 0} {x : X} (w : List ℕ) → is_word w ≡ true → Ended b → Says b T x → Says (w ++ b) (word w >>= (λ line. T)) x
says_word w h e s = record { tokens = bare Word w ∷ s.tokens; lexed = gives_then (gives_word w h) s.lexed e; spelled = token_then (shows_word w) (λ line u. s.spelled) }

pub says_any : {K X : Type 0} {S : K → List Lexeme → X → Type 0} {a : List ℕ} {x : X} (form : K) → Says a (S form) x → Says a (any S) x
says_any {S = S} form s = record { tokens = s.tokens; lexed = s.lexed; spelled = spelled_any {S = S} form s.spelled }

-- ---- lists

abbrev pub AllSay : {X : Type 0} → (X → List ℕ) → (List Lexeme → X → Type 0) → List X → Type 0
AllSay show S [] = Unit {0}
AllSay show S (x ∷ xs) = Says (show x) S x × AllSay show S xs

pub all_say : {X : Type 0} (show : X → List ℕ) (S : List Lexeme → X → Type 0) → ((x : X) → IsSpelled S x → Says (show x) S x) → (xs : List X) → AllGood S xs → AllSay show S xs
all_say show S law [] g = tt
all_say show S law (x ∷ xs) g = (law x g.0, all_say show S law xs g.1)

pub spelled_cons : {X : Type 0} {S : List Lexeme → X → Type 0} {x : X} {xs : List X} {ls ms : List Bare} → Spelled S ls (λ y. y ≡ x) → Spelled (many S) ms (λ ys. ys ≡ xs) → Spelled (many S) (ls ++ ms) (λ ys. ys ≡ x ∷ xs)
spelled_cons {ls = ls} {ms = ms} s t = record {
  all = λ ts e.
      let r = part ts ls ms e in
      let a = s.all r.front r.front_is in
      let b = t.all r.rest r.rest_is in
      (a.0 ∷ b.0, (r.front, r.rest, a.1, b.1, r.whole), (λ i. a.2 i ∷ b.2 i));
}

pub says_nil : {X : Type 0} (S : List Lexeme → X → Type 0) → Says [] (many S) []
says_nil S = record { tokens = []; lexed = gives_none; spelled = record { all = λ ts e. ([], no_tokens ts e, refl) } }

-- each behind what separates it from the one before
pub led_ended : (separator : List ℕ) → ((rest : List ℕ) → Ends (separator ++ rest)) → (parts : List (List ℕ)) → Ended (all_led separator parts)
led_ended separator n [] rest e = e
led_ended separator n (p ∷ ps) rest e = subst Ends (sym (append_assoc (separator ++ p) (all_led separator ps) rest ∙ append_assoc separator p (all_led separator ps ++ rest))) (n (p ++ (all_led separator ps ++ rest)))

pub says_commas : {X : Type 0} (show : X → List ℕ) (S : List Lexeme → X → Type 0) (xs : List X) → AllSay show S xs → Says (all_led (codes ", ") (map show xs)) (many (after_comma S)) xs
says_commas show S [] h = says_nil (after_comma S)
says_commas show S (x ∷ xs) h =
    let r = says_commas show S xs h.1 in
    let s : Says (codes ", " ++ show x) (after_comma S) x = says_comma h.0 in
    record { tokens = s.tokens ++ r.tokens; lexed = gives_then s.lexed r.lexed (led_ended (codes ", ") (λ rest. refl) (map show xs)); spelled = spelled_cons s.spelled r.spelled }

pub says_spaced : {X : Type 0} (show : X → List ℕ) (S : List Lexeme → X → Type 0) (xs : List X) → AllSay show S xs → Says (all_led (codes " ") (map show xs)) (many S) xs
says_spaced show S [] h = says_nil S
says_spaced show S (x ∷ xs) h =
    let r = says_spaced show S xs h.1 in
    let s : Says (codes " " ++ show x) S x = says_space h.0 in
    record { tokens = s.tokens ++ r.tokens; lexed = gives_then s.lexed r.lexed (led_ended (codes " ") (λ rest. refl) (map show xs)); spelled = spelled_cons s.spelled r.spelled }

-- a list with commas, up to its closing mark
pub record Listed {X : Type 0} (close : ℕ) (text : List ℕ) (S : List Lexeme → X → Type 0) (xs : List X) : Type 0 where
  pub tokens : List Bare
  pub lexed : Gives text tokens
  pub spelled : Spelled (list_to close S) (tokens ++ bare (Mark close) (close ∷ []) ∷ []) (λ ys. ys ≡ xs)

pub listed_by : {X : Type 0} (close : ℕ) (show : X → List ℕ) (S : List Lexeme → X → Type 0) (xs : List X) → AllSay show S xs → Listed close (comma_list (map show xs)) S xs
listed_by close show S [] h = record { tokens = []; lexed = gives_none; spelled = spelled_any AtEnd (token_then (shows_mark close) (λ line u. spelled_done [] (λ ys. ys ≡ []) refl)) }
listed_by close show S (x ∷ xs) h =
    let r = says_commas show S xs h.1 in
    let s = h.0 in
    let end : List Bare = bare (Mark close) (close ∷ []) ∷ [] in
    record {
      tokens = s.tokens ++ r.tokens;
      lexed = gives_then s.lexed r.lexed (led_ended (codes ", ") (λ rest. refl) (map show xs));
      spelled = spelled_as (sym (append_assoc s.tokens r.tokens end)) (spelled_any OneMore
          (spelled_same {ls = s.tokens} {ms = r.tokens ++ end} {v = x} {Q = λ ys. ys ≡ x ∷ xs} s.spelled
          (spelled_same {ls = r.tokens} {ms = end} {v = xs} {Q = λ ys. ys ≡ x ∷ xs} r.spelled
          (token_then (shows_mark close) (λ line u. spelled_done (x ∷ xs) (λ ys. ys ≡ x ∷ xs) refl)))));
    }

-- with a space on each side
pub spaced_gives : (separator : List ℕ) (parts : List (List ℕ)) (ls : List Bare) → Gives (parted separator parts) ls → Gives (in_spaces separator parts) ls
spaced_gives separator [] ls g = gives_then {b = []} (gives_of closes_space) g (λ rest e. e)
spaced_gives separator (p ∷ ps) ls g = subst (Gives (in_spaces separator (p ∷ ps))) (append-nil ls) (closes_gives closes_space (gives_then g (gives_of closes_space) (λ rest e. refl)))

-- between braces
braced_gives : (a : List ℕ) (ls : List Bare) → Gives a ls → Gives (123 ∷ (a ++ 125 ∷ [])) (bare (Mark 123) (123 ∷ []) ∷ (ls ++ bare (Mark 125) (125 ∷ []) ∷ []))
braced_gives a ls g = record {
  before = λ d rest ms e r. open_lexed d ((a ++ 125 ∷ []) ++ rest) ((ls ++ bare (Mark 125) (125 ∷ []) ∷ []) ++ ms)
      (subst (λ t. Lexed (d + 1) t ((ls ++ bare (Mark 125) (125 ∷ []) ∷ []) ++ ms)) (sym (append_assoc a (125 ∷ []) rest))
      (subst (Lexed (d + 1) (a ++ 125 ∷ rest)) (sym (append_assoc ls (bare (Mark 125) (125 ∷ []) ∷ []) ms))
      (g.before (d + 1) (125 ∷ rest) (bare (Mark 125) (125 ∷ []) ∷ ms) refl (close_lexed d rest ms r))));
}

-- between other marks
marked_gives : (open_ close : ℕ) (a : List ℕ) (ls : List Bare) → class_of open_ ≡ Bracket → is_brace open_ ≡ false → class_of close ≡ Bracket → is_brace close ≡ false → Ended (close ∷ []) → Gives a ls → Gives (open_ ∷ (a ++ close ∷ [])) (bare (Mark open_) (open_ ∷ []) ∷ (ls ++ bare (Mark close) (close ∷ []) ∷ []))
marked_gives open_ close a ls c n k m e g = closes_gives (closes_mark open_ c n) (gives_then g (gives_of (closes_mark close k m)) e)

-- a list between marks
listed_says : {X Y : Type 0} (open_ close : ℕ) (a b : List ℕ) (S : List Lexeme → X → Type 0) (f : List X → Y) (xs : List X) (l : Listed close a S xs) → Gives (open_ ∷ (b ++ close ∷ [])) (bare (Mark open_) (open_ ∷ []) ∷ (l.tokens ++ bare (Mark close) (close ∷ []) ∷ [])) → Says (open_ ∷ (b ++ close ∷ [])) (mark open_ >>= (λ line. list_to close S >>= (λ ys. done (f ys)))) (f xs)
listed_says open_ close a b S f xs l g =
    let ls = l.tokens ++ bare (Mark close) (close ∷ []) ∷ [] in
    record { tokens = bare (Mark open_) (open_ ∷ []) ∷ ls; lexed = g; spelled = token_then (shows_mark open_) (λ line u. spelled_as (append-nil ls) (spelled_same {T = λ ys. done (f ys)} {ls = ls} {ms = []} {v = xs} {Q = λ y. y ≡ f xs} l.spelled (spelled_done (f xs) (λ y. y ≡ f xs) refl))) }

pub says_braced : {X Y : Type 0} (show : X → List ℕ) (S : List Lexeme → X → Type 0) (f : List X → Y) (xs : List X) → AllSay show S xs → Says (codes "{" ++ in_spaces (codes ", ") (map show xs) ++ codes "}") (mark 123 >>= (λ line. list_to 125 S >>= (λ ys. done (f ys)))) (f xs)
says_braced show S f xs h =
    let l = listed_by 125 show S xs h in
    let a = in_spaces (codes ", ") (map show xs) in
    listed_says 123 125 (comma_list (map show xs)) a S f xs l (braced_gives a l.tokens (spaced_gives (codes ", ") (map show xs) l.tokens l.lexed))

pub says_squared : {X Y : Type 0} (show : X → List ℕ) (S : List Lexeme → X → Type 0) (f : List X → Y) (xs : List X) → AllSay show S xs → Says (codes "[" ++ in_spaces (codes ", ") (map show xs) ++ codes "]") (mark 91 >>= (λ line. list_to 93 S >>= (λ ys. done (f ys)))) (f xs)
says_squared show S f xs h =
    let l = listed_by 93 show S xs h in
    let a = in_spaces (codes ", ") (map show xs) in
    listed_says 91 93 (comma_list (map show xs)) a S f xs l (marked_gives 91 93 a l.tokens refl refl refl refl (λ rest e. refl) (spaced_gives (codes ", ") (map show xs) l.tokens l.lexed))

-- a list and its closing parenthesis
pub says_closed : {X : Type 0} (show : X → List ℕ) (S : List Lexeme → X → Type 0) (xs : List X) → AllSay show S xs → Says (comma_list (map show xs) ++ codes ")") (list_to 41 S) xs
says_closed show S xs h =
    let l = listed_by 41 show S xs h in
    record { tokens = l.tokens ++ bare (Mark 41) (41 ∷ []) ∷ []; lexed = gives_then l.lexed (gives_of (closes_mark 41 refl refl)) (λ rest e. refl); spelled = l.spelled }

-- ---- one of two forms

pub says_left : {X : Type 0} {a : List ℕ} {S : List Lexeme → X → Type 0} (T : List Lexeme → X → Type 0) {x : X} → Says a S x → Says a (λ ts y. S ts y ⊎ T ts y) x
says_left T s = record { tokens = s.tokens; lexed = s.lexed; spelled = record { all = λ ts e. let a = s.spelled.all ts e in (a.0, inl a.1, a.2) } }

pub says_right : {X : Type 0} {a : List ℕ} (S : List Lexeme → X → Type 0) {T : List Lexeme → X → Type 0} {x : X} → Says a T x → Says a (λ ts y. S ts y ⊎ T ts y) x
says_right S s = record { tokens = s.tokens; lexed = s.lexed; spelled = record { all = λ ts e. let a = s.spelled.all ts e in (a.0, inr a.1, a.2) } }
