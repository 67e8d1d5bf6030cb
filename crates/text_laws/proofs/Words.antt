-- The words of items and the groups of functions: what is kept of them is spelled by its canonical text.
use Rattle.std.proofs.Common.{◌≡◌, ℕ, zero, suc, ◌<◌, List, [], ◌∷◌, ◌++◌, length, map, Contains, true, refl, sym, ap, ◌∙◌, subst, inl, inr, arith, codes}
use Rattle.std.specs.List.{flat_map, AllByRecursion}
use Rattle.std.proofs.lemmas.List.{append-nil}
use Rattle.ir_core.specs.Bytes.{Hash}
use Rattle.ir_core.specs.Tokens.{Word, Group, Lexeme, Led, IsDigits}
use Rattle.ir_core.specs.Spell.{done, one, any, many}
use Rattle.ir_core.specs.Language.{item_words, IsItemWord, kept_words, FunctionWordForm, KeptGroup, PlainWord, TextWord, Section, Comdat, Aligned, Attached, function_word, groups}
use Rattle.ir_core.specs.Text.{is_word, spaced_words, all_led}
use Rattle.text_laws.proofs.Rows.{Bare, bare}
use Rattle.text_laws.proofs.Joined.{Gives, Closes, gives_none, gives_then, closes_gives, closes_then, closes_space, closes_word}
use Rattle.text_laws.proofs.Spelled.{Spelled, part, no_tokens, spelled_done, spelled_then, spelled_as, spelled_any, spelled_one}
use Rattle.text_laws.proofs.Quoted.{begins_gives, group_begins}
use Rattle.text_laws.specs.Spelling.{Shaped, IsSpelled}
use Rattle.text_laws.proofs.TextBytes.{group_bytes}
use Rattle.text_laws.proofs.Good.{AllGood, good_then, good_done, good_one, good_any, good_many}
use Rattle.text_laws.proofs.Back.{Back, Says, led_ended}
use Rattle.text_laws.proofs.Each.{each_append}

-- ---- lists of which each part gives one value or none

abbrev pub joined : List (List (List ℕ)) → List (List ℕ)
joined = flat_map (λ ws. ws)

each_joined : (P : List ℕ → Type 0) (S : List Lexeme → List (List ℕ) → Type 0) → ((ws : List (List ℕ)) → IsSpelled S ws → AllByRecursion P ws) → (wss : List (List (List ℕ))) → AllGood S wss → AllByRecursion P (joined wss)
each_joined P S law [] g = tt
each_joined P S law (ws ∷ wss) g = each_append P ws (joined wss) (law ws g.0) (each_joined P S law wss g.1)

-- one token for each
joined_spelled : (P : List ℕ → Type 0) (S : List Lexeme → List (List ℕ) → Type 0) (tokens : List ℕ → Bare) → ((w : List ℕ) → P w → Spelled S (tokens w ∷ []) (λ ws. ws ≡ w ∷ [])) → (ws : List (List ℕ)) → AllByRecursion P ws → Spelled (many S) (map tokens ws) (λ wss. joined wss ≡ ws)
joined_spelled P S tokens law [] h = record { all = λ ts e. ([], no_tokens ts e, refl) }
joined_spelled P S tokens law (w ∷ ws) h = record {
  all = λ ts e.
      let r = part ts (tokens w ∷ []) (map tokens ws) e in
      let a = (law w h.0).all r.front r.front_is in
      let b = (joined_spelled P S tokens law ws h.1).all r.rest r.rest_is in
      (a.0 ∷ b.0, (r.front, r.rest, a.1, b.1, r.whole), ap (λ x. x ++ joined b.0) a.2 ∙ ap (λ x. w ∷ x) b.2);
}

-- ---- words that are kept

abbrev AreWords : List (List ℕ) → Type 0
AreWords = AllByRecursion (λ w. is_word w ≡ true)

contained : (ws : List (List ℕ)) → AreWords ws → (w : List ℕ) → Contains ws w → is_word w ≡ true
contained [] a w (k, l, e) = absurd (omega arith)
contained (x ∷ xs) a w (zero, l, e) = ap is_word (sym e) ∙ a.0
contained (x ∷ xs) a w (suc k, l, e) = contained xs a.1 w (k, omega arith, e)

item_words_are : AreWords item_words
item_words_are = (refl, (refl, (refl, (refl, (refl, (refl, (refl, (refl, (refl, (refl, (refl, (refl, (refl, (refl, (refl, (refl, (refl, (refl, (refl, tt)))))))))))))))))))

item_each : (ws : List (List ℕ)) → IsSpelled (one IsItemWord) ws → AllByRecursion (λ w. Contains item_words w) ws
item_each ws g = let s = good_one g in by s.token s.is
  where
    by : (t : Lexeme) → IsItemWord t ws → AllByRecursion (λ w. Contains item_words w) ws
    by t (inl h) = subst (AllByRecursion (λ w. Contains item_words w)) (sym h.1) (h.0.1, tt)
    by t (inr h) = subst (AllByRecursion (λ w. Contains item_words w)) (sym h.1) tt

word_spelled : (w : List ℕ) → Contains item_words w → Spelled (one IsItemWord) (bare Word w ∷ []) (λ ws. ws ≡ w ∷ [])
word_spelled w h = spelled_one (λ t e.
    let b = ap (λ (b : Bare). b.bytes) e in
    (w ∷ [], inl ((ap (λ (b : Bare). b.kind) e, subst (Contains item_words) (sym b) h), ap (λ x. x ∷ []) (sym b)), refl))

spaced_closes : (ws : List (List ℕ)) → AllByRecursion (λ w. Contains item_words w) ws → Closes (spaced_words ws) (map (bare Word) ws)
spaced_closes [] h = record { before = λ d rest ms r. r }
spaced_closes (w ∷ ws) h = closes_then (closes_word w (contained item_words item_words_are w h.0)) (spaced_closes ws h.1)

pub words_back : (ws : List (List ℕ)) → IsSpelled kept_words ws → Back Closes (spaced_words ws) kept_words (λ y. y ≡ ws)
words_back ws g =
    let a = good_then g in
    let e = subst (AllByRecursion (λ w. Contains item_words w)) (sym (good_done a.rest)) (each_joined (λ w. Contains item_words w) (one IsItemWord) item_each a.value (good_many (one IsItemWord) a.value a.front)) in
    let ls = map (bare Word) ws in
    record {
      tokens = ls;
      lexed = spaced_closes ws e;
      spelled = spelled_as (append-nil ls) (spelled_then {T = λ wss. done (joined wss)} {ls = ls} {ms = []} {Q = λ y. y ≡ ws} (joined_spelled (λ w. Contains item_words w) (one IsItemWord) (bare Word) word_spelled ws e) (λ wss p. spelled_done (joined wss) (λ y. y ≡ ws) p));
    }

-- ---- groups that are kept

abbrev IsGroupBytes : List ℕ → Type 0
IsGroupBytes w = Led Hash IsDigits w

group_each : (form : FunctionWordForm) (gs : List (List ℕ)) → IsSpelled (function_word form) gs → AllByRecursion IsGroupBytes gs
group_each KeptGroup gs g = let s = good_one g in subst (AllByRecursion IsGroupBytes) (sym s.is.1) (subst (λ k. Shaped k s.token.bytes) s.is.0 s.fine.shape, tt)
group_each PlainWord gs g = subst (AllByRecursion IsGroupBytes) (sym (good_done (good_then g).rest)) tt
group_each TextWord gs g = subst (AllByRecursion IsGroupBytes) (sym (good_done (good_then (good_then g).rest).rest)) tt
group_each Section gs g = subst (AllByRecursion IsGroupBytes) (sym (good_done (good_then (good_then g).rest).rest)) tt
group_each Comdat gs g = subst (AllByRecursion IsGroupBytes) (sym (good_done (good_then (good_then g).rest).rest)) tt
group_each Aligned gs g = subst (AllByRecursion IsGroupBytes) (sym (good_done (good_then (good_then g).rest).rest)) tt
group_each Attached gs g = subst (AllByRecursion IsGroupBytes) (sym (good_done (good_then g).rest)) tt

some_group : (gs : List (List ℕ)) → IsSpelled (any function_word) gs → AllByRecursion IsGroupBytes gs
some_group gs g = let f = good_any g in group_each f.0 gs f.1

group_spelled : (w : List ℕ) → IsGroupBytes w → Spelled (any function_word) (bare Group w ∷ []) (λ ws. ws ≡ w ∷ [])
group_spelled w h = spelled_any {S = function_word} KeptGroup (spelled_one (λ t e.
    let b = ap (λ (b : Bare). b.bytes) e in
    (w ∷ [], (ap (λ (b : Bare). b.kind) e, ap (λ x. x ∷ []) (sym b)), refl)))

led_some : (w : List ℕ) → IsGroupBytes w → 0 < length w
led_some w h = let l = ap length h.2 in omega arith

led_gives : (gs : List (List ℕ)) → AllByRecursion IsGroupBytes gs → Gives (all_led (codes " ") gs) (map (bare Group) gs)
led_gives [] h = gives_none
led_gives (g ∷ gs) h = gives_then (closes_gives closes_space (begins_gives Group g (λ s. refl) (group_bytes g h.0) (led_some g h.0) (λ f. cc) (group_begins g h.0))) (led_gives gs h.1) (led_ended (codes " ") (λ rest. refl) gs)

pub groups_says : (gs : List (List ℕ)) → IsSpelled groups gs → Says (all_led (codes " ") gs) groups gs
groups_says gs g =
    let a = good_then g in
    let e = subst (AllByRecursion IsGroupBytes) (sym (good_done a.rest)) (each_joined IsGroupBytes (any function_word) some_group a.value (good_many (any function_word) a.value a.front)) in
    let ls = map (bare Group) gs in
    record {
      tokens = ls;
      lexed = led_gives gs e;
      spelled = spelled_as (append-nil ls) (spelled_then {T = λ wss. done (joined wss)} {ls = ls} {ms = []} {Q = λ y. y ≡ gs} (joined_spelled IsGroupBytes (any function_word) (bare Group) group_spelled gs e) (λ wss p. spelled_done (joined wss) (λ y. y ≡ gs) p));
    }
