-- Probes behind the tokens of a text.
use Rattle.std.proofs.Common.{◌≡◌, ℕ, zero, suc, ◌+◌, ◌-◌, ◌≤◌, List, [], ◌∷◌, ◌++◌, length, map, take, drop, refl, sym, ap, ◌∙◌, arith, append_assoc}
use Rattle.std.proofs.Math.Seq.{drop-append-add}
use Rattle.std.proofs.lemmas.List.{drop-append-le, take-append-le, length-drop}
use Rattle.std.proofs.lemmas.List.Elements.{All-head, All-tail}
use Rattle.ir_core.specs.Tokens.{TokenKind, Lexeme, lexeme_of, lexemes}
use Rattle.ir_lex.specs.declared.token.Token.{Token}
use Rattle.ir_lex.specs.Seen.{token_seen, tokens_seen}
use Rattle.ir_read.specs.declared.stopped.Probe.{Probe}
use Rattle.ir_read.specs.Probes.{probe_bytes, probe_seen, AreWithin}

-- a part of what stands behind the text
part_behind : (text more : List ℕ) (base i n : ℕ) → length text ≡ base → take ((base + i + n) - (base + i)) (drop (base + i) (text ++ more)) ≡ take n (drop i more)
part_behind text more base i n h =
    let size : (base + i + n) - (base + i) ≡ n = omega arith in
    ap (λ k. take k (drop (base + i) (text ++ more))) size ∙ ap (λ k. take n (drop (k + i) (text ++ more))) (sym h) ∙ ap (take n) (drop-append-add text more i)

pub token_behind : (text more : List ℕ) (base i n line : ℕ) (kind : TokenKind) → length text ≡ base → lexeme_of (text ++ more) (record { kind = kind; start = base + i; end = base + i + n; line = line }) ≡ record { kind = kind; bytes = take n (drop i more); line = line }
token_behind text more base i n line kind h = λ j. record { kind = kind; bytes = part_behind text more base i n h j; line = line }

-- one token more
one_more : (text : List ℕ) (ts : List Token) (t : Token) → lexemes text (tokens_seen (ts ++ t ∷ [])) ≡ lexemes text (tokens_seen ts) ++ lexeme_of text (token_seen t) ∷ []
one_more text [] t = refl
one_more text (u ∷ us) t = ap (λ (l : List Lexeme). lexeme_of text (token_seen u) ∷ l) (one_more text us t)

-- one probe more behind the tokens of a text
pub probe_more : (text : List ℕ) (ts : List Token) (t : Token) (front : List Lexeme) (before : List Probe) (p : Probe) → lexemes text (tokens_seen ts) ≡ front ++ map probe_seen before → lexeme_of text (token_seen t) ≡ probe_seen p → lexemes text (tokens_seen (ts ++ t ∷ [])) ≡ front ++ map probe_seen (before ++ p ∷ [])
probe_more text ts t front before p h k =
    one_more text ts t
    ∙ ap (λ (l : List Lexeme). l ++ lexeme_of text (token_seen t) ∷ []) h
    ∙ ap (λ (u : Lexeme). (front ++ map probe_seen before) ++ u ∷ []) k
    ∙ append_assoc front (map probe_seen before) (probe_seen p ∷ [])
    ∙ ap (λ (l : List Lexeme). front ++ l) (sym (one_probe before))
  where
    one_probe : (ps : List Probe) → map probe_seen (ps ++ p ∷ []) ≡ map probe_seen ps ++ probe_seen p ∷ []
    one_probe [] = refl
    one_probe (q ∷ qs) = ap (λ (l : List Lexeme). probe_seen q ∷ l) (one_probe qs)

-- a part of a text is the same in a longer one
part_within : (text more : List ℕ) (start end : ℕ) → end ≤ length text → take (end - start) (drop start (text ++ more)) ≡ take (end - start) (drop start text)
part_within text more start end h = by_size (end - start) refl
  where
    by_size : (n : ℕ) → end - start ≡ n → take (end - start) (drop start (text ++ more)) ≡ take (end - start) (drop start text)
    by_size zero e = ap (λ n. take n (drop start (text ++ more))) e ∙ sym (ap (λ n. take n (drop start text)) e)
    by_size (suc n) e =
        let left : length (drop start text) ≡ length text - start = length-drop start text in
        ap (take (end - start)) (drop-append-le start text more (omega arith)) ∙ take-append-le (end - start) (drop start text) more (omega arith)

pub lexemes_longer : (text more : List ℕ) (ts : List Token) → AreWithin text ts → lexemes (text ++ more) (tokens_seen ts) ≡ lexemes text (tokens_seen ts)
lexemes_longer text more [] w = refl
lexemes_longer text more (t ∷ ts) w =
    ap (λ (u : Lexeme). u ∷ lexemes (text ++ more) (tokens_seen ts)) (λ j. record { kind = (token_seen t).kind; bytes = part_within text more t.start t.end (All-head (λ (u : Token). u.end ≤ length text) t ts w) j; line = t.line })
    ∙ ap (λ (l : List Lexeme). lexeme_of text (token_seen t) ∷ l) (lexemes_longer text more ts (All-tail (λ (u : Token). u.end ≤ length text) t ts w))
