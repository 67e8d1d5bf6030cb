-- The tokens of a text but for its last end within what is looked at.
use Rattle.std.proofs.Common.{◌≡◌, ℕ, zero, suc, ◌+◌, ◌-◌, ◌≤◌, List, [], ◌∷◌, ◌++◌, length, map, take, drop, Option, Some, None, Bool, true, false, cond, refl, sym, ap, ◌∙◌, subst, arith, inl, inr, length-append, length-drop}
use Rattle.std.specs.Prelude.{nat_lt}
use Rattle.std.proofs.lemmas.List.{drop-drop, take-append-le}
use Rattle.std.proofs.lemmas.List.Elements.{All-cons, All-nil}
use Rattle.ir_core.specs.Tokens.{Token, Piece, Spot, Pieces, kept, tokens_from, past_limit, has_bad, with_past, Lexes, text_limit, TokenKind, Past, text_start, behind}
use Rattle.ir_lex.specs.declared.token.Token.{Token as TokenData}
use Rattle.ir_lex.specs.Seen.{token_seen, tokens_seen}
use Rattle.ir_read.specs.Probes.{AreWithin}

abbrev AllWithin : ℕ → List Token → Type 0
AllWithin n [] = Unit {0}
AllWithin n (t ∷ ts) = (t.end ≤ n) × AllWithin n ts

kept_within : (text : List ℕ) (n start end : ℕ) (kind : Option TokenKind) → end ≤ n → (more : List Token) → AllWithin n more → AllWithin n (kept text kind start end ++ more)
kept_within text n start end None h more m = m
kept_within text n start end (Some kind) h more m = (h, m)

from_within : (text : List ℕ) (spot : Spot) (at : ℕ) (ps : List Piece) → at ≤ length text → Pieces spot (drop at text) ps → AllWithin (length text) (tokens_from text at ps)
from_within text spot at [] h p = tt
from_within text spot at (q ∷ qs) h (inl p) =
    let i = p.0.inside in
    let l = length-drop at text in
    let e : at + q.size ≤ length text = omega arith in
    kept_within text (length text) at (at + q.size) q.kind e (tokens_from text (at + q.size) qs)
    (from_within text (behind spot q.kind (take q.size (drop at text))) (at + q.size) qs e (subst (λ r. Pieces (behind spot q.kind (take q.size (drop at text))) r qs) (drop-drop q.size at text) p.1))
from_within text spot at (q ∷ qs) h (inr p) =
    let l = length-drop at text in
    let size = ap (λ (r : Piece). r.size) p.0 in
    let some = p.2 in
    let e : at + q.size ≤ length text = omega arith in
    subst (λ r. AllWithin (length text) (kept text q.kind at (at + q.size) ++ tokens_from text (at + q.size) r)) (sym p.1) (kept_within text (length text) at (at + q.size) q.kind e [] tt)

past_short : (text : List ℕ) (ts : List Token) → length (past_limit text ts) ≤ 1
past_short text ts = by_tests (nat_lt text_limit (length text)) (has_bad ts)
  where
    by_tests : (long bad : Bool) → length (cond long (cond bad [] (kept text (Some Past) text_limit (text_limit + 1))) []) ≤ 1
    by_tests true true = omega arith
    by_tests true false = omega arith
    by_tests false bad = omega arith

front_within : (n k : ℕ) (ts : List Token) → AllWithin n ts → AllWithin n (take k ts)
front_within n zero ts w = tt
front_within n (suc k) [] w = tt
front_within n (suc k) (t ∷ ts) w = (w.0, front_within n k ts w.1)

all_but_last : (n : ℕ) (ts past : List Token) → AllWithin n ts → length past ≤ 1 → AllWithin n (take (length (ts ++ past) - 1) (ts ++ past))
all_but_last n ts past w h =
    let l = length-append ts past in
    subst (AllWithin n) (sym (take-append-le (length (ts ++ past) - 1) ts past (omega arith))) (front_within n (length (ts ++ past) - 1) ts w)

seen_within : (text : List ℕ) (ts : List TokenData) → AllWithin (length text) (tokens_seen ts) → AreWithin text ts
seen_within text [] w = All-nil _
seen_within text (t ∷ ts) w = All-cons (λ (u : TokenData). u.end ≤ length text) t ts w.0 (seen_within text ts w.1)

take_seen : (k : ℕ) (ts : List TokenData) → take k (tokens_seen ts) ≡ tokens_seen (take k ts)
take_seen zero ts = refl
take_seen (suc k) [] = refl
take_seen (suc k) (t ∷ ts) = ap (λ (l : List Token). token_seen t ∷ l) (take_seen k ts)

length_seen : (ts : List TokenData) → length (tokens_seen ts) ≡ length ts
length_seen [] = refl
length_seen (t ∷ ts) = ap suc (length_seen ts)

pub ends_within : (text looked : List ℕ) (ts : List TokenData) → looked ≡ take text_limit text → Lexes text (tokens_seen ts) → AreWithin looked (take (length ts - 1) ts)
ends_within text looked ts e h =
    let found = take text_limit text in
    let pieces = tokens_from found 0 h.0 in
    let all : AllWithin (length found) (take (length (with_past text pieces) - 1) (with_past text pieces)) = all_but_last (length found) pieces (past_limit text pieces) (from_within found text_start 0 h.0 (omega arith) h.1) (past_short text pieces) in
    let seen : AllWithin (length found) (take (length (tokens_seen ts) - 1) (tokens_seen ts)) = subst (λ l. AllWithin (length found) (take (length l - 1) l)) (sym h.2) all in
    subst (λ l. AreWithin l (take (length ts - 1) ts)) (sym e)
    (seen_within found (take (length ts - 1) ts) (subst (AllWithin (length found)) (ap (λ n. take (n - 1) (tokens_seen ts)) (length_seen ts) ∙ take_seen (length ts - 1) ts) seen))
