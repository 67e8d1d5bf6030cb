-- Where the refused token cuts the tokens of a text.
use Rattle.std.proofs.Common.{◌≡◌, ℕ, zero, suc, ◌+◌, ◌-◌, ◌≤◌, List, [], ◌∷◌, ◌++◌, length, map, take, drop, refl, sym, ap, ◌∙◌, subst, arith, length-append}
use Rattle.std.proofs.Math.Seq.{take-append_seam, drop-append_seam}
use Rattle.ir_core.specs.declared.refusal.Refusal.{Refusal}
use Rattle.ir_core.specs.Tokens.{Lexeme, lexeme_of, lexemes, Lexes, text_limit}
use Rattle.ir_core.specs.Spell.{IsFirstRefused}
use Rattle.ir_core.specs.Language.{module_to_end}
use Rattle.ir_core.specs.TextRefusals.{IsRefusalAt, IsTextRefusal}
use Rattle.ir_lex.specs.declared.token.Token.{Token}
use Rattle.ir_lex.specs.Seen.{token_seen, tokens_seen}

take_seen : (text : List ℕ) (k : ℕ) (ts : List Token) → take k (lexemes text (tokens_seen ts)) ≡ lexemes text (tokens_seen (take k ts))
take_seen text zero ts = refl
take_seen text (suc k) [] = refl
take_seen text (suc k) (t ∷ ts) = ap (λ (l : List Lexeme). lexeme_of text (token_seen t) ∷ l) (take_seen text k ts)

drop_seen : (text : List ℕ) (k : ℕ) (ts : List Token) → drop k (lexemes text (tokens_seen ts)) ≡ lexemes text (tokens_seen (drop k ts))
drop_seen text zero ts = refl
drop_seen text (suc k) [] = refl
drop_seen text (suc k) (t ∷ ts) = drop_seen text k ts

length_seen : (text : List ℕ) (ts : List Token) → length (lexemes text (tokens_seen ts)) ≡ length ts
length_seen text [] = refl
length_seen text (t ∷ ts) = ap suc (length_seen text ts)

module _ (text : List ℕ) (ts : List Token) (left : ℕ) (front rest : List Lexeme) (is : lexemes text (tokens_seen ts) ≡ front ++ rest) (place : length rest ≡ left) where
  cut : length ts - left ≡ length front
  cut = let a = sym (length_seen text ts) ∙ ap length is ∙ length-append front rest in omega arith

  front_is : lexemes text (tokens_seen (take (length ts - left) ts)) ≡ front
  front_is = sym (take_seen text (length ts - left) ts) ∙ ap (take (length ts - left)) is ∙ ap (λ n. take n (front ++ rest)) cut ∙ take-append_seam front rest

  rest_is : lexemes text (tokens_seen (drop (length ts - left) ts)) ≡ rest
  rest_is = sym (drop_seen text (length ts - left) ts) ∙ ap (drop (length ts - left)) is ∙ ap (λ n. drop n (front ++ rest)) cut ∙ drop-append_seam front rest

pub text_refusal : (text looked : List ℕ) (ts cut_ts : List Token) (ahead : List Lexeme) (left : ℕ) (r : Refusal) → looked ≡ take text_limit text → cut_ts ≡ ts → ahead ≡ lexemes looked (tokens_seen ts) → Lexes text (tokens_seen ts) → IsFirstRefused module_to_end ahead left → IsRefusalAt looked (lexemes looked (tokens_seen (take (length cut_ts - left) cut_ts))) (lexemes looked (tokens_seen (drop (length cut_ts - left) cut_ts))) r → IsTextRefusal text r
text_refusal text looked ts cut_ts ahead left r e k a h f told =
    let first : IsFirstRefused module_to_end (lexemes (take text_limit text) (tokens_seen ts)) left = subst (λ l. IsFirstRefused module_to_end l left) (a ∙ ap (λ (l : List ℕ). lexemes l (tokens_seen ts)) e) f in
    let same = subst (λ l. IsRefusalAt l (lexemes l (tokens_seen (take (length cut_ts - left) cut_ts))) (lexemes l (tokens_seen (drop (length cut_ts - left) cut_ts))) r) e told in
    let cut = subst (λ l. IsRefusalAt (take text_limit text) (lexemes (take text_limit text) (tokens_seen (take (length l - left) l))) (lexemes (take text_limit text) (tokens_seen (drop (length l - left) l))) r) k same in
    let front = front_is (take text_limit text) ts left first.front first.rest first.is first.place in
    let rest = rest_is (take text_limit text) ts left first.front first.rest first.is first.place in
    record {
      tokens = tokens_seen ts;
      lexes = h;
      left = left;
      first = first;
      told = subst (λ l. IsRefusalAt (take text_limit text) first.front l r) rest (subst (λ l. IsRefusalAt (take text_limit text) l (lexemes (take text_limit text) (tokens_seen (drop (length ts - left) ts))) r) front cut);
    }
