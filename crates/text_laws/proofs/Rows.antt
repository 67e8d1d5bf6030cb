-- The tokens of a text, without their places and lines, found from its end to its front.
use Rattle.std.proofs.Common.{true, ◌≡◌, ℕ, ◌+◌, ◌-◌, ◌≤◌, ◌<◌, List, [], ◌∷◌, ◌++◌, length, take, drop, map, Option, Some, None, false, refl, sym, ap, ◌∙◌, subst, inl, arith, length-append, take_at, drop_at, nat_lt}
use Rattle.std.proofs.lemmas.List.{append-nil, drop-drop, take_all}
use Rattle.std.proofs.lemmas.Bool.{le-ltb}
use Rattle.ir_core.specs.Tokens.{TokenKind, Bad, Token, Spot, text_start, is_outside, behind, Piece, Pieces, kept, tokens_from, text_limit, past_limit, Lexes, Lexeme, lexemes}
use Rattle.ir_core.specs.Scan.{piece, plain_at, piece_at}
use Rattle.ir_core.specs.Formed.{is_byte}
use Rattle.ir_core.proofs.Runs.{if_false, every_append}
use Rattle.ir_core.proofs.Lexing.{not_bad, piece_inside}
use Rattle.text_laws.specs.Spelling.{AreBytes}

-- a token without its place and its line
pub record Bare : Type 0 where
  pub kind : TokenKind
  pub bytes : List ℕ

abbrev pub bare : TokenKind → List ℕ → Bare
bare kind bytes = record { kind = kind; bytes = bytes }

-- a token of a text, without its line
abbrev pub bare_of : Lexeme → Bare
bare_of t = bare t.kind t.bytes

abbrev pub bare_kept : Option TokenKind → List ℕ → List Bare
bare_kept None bytes = []
bare_kept (Some kind) bytes = bare kind bytes ∷ []

-- the tokens of pieces, one piece behind the other
abbrev pub bare_from : List ℕ → List Piece → List Bare
bare_from text [] = []
bare_from text (p ∷ ps) = bare_kept p.kind (take p.size text) ++ bare_from (drop p.size text) ps

-- from a spot on pieces make up the text, which is of bytes, and these are their tokens
pub record LexedAt (spot : Spot) (text : List ℕ) (ls : List Bare) : Type 0 where
  pub pieces : List Piece
  pub make_up : Pieces spot text pieces
  pub tokens : bare_from text pieces ≡ ls
  pub bytes : AreBytes text

-- so it is behind d open braces, wherever no passive line may stand
pub record Lexed (d : ℕ) (text : List ℕ) (ls : List Bare) : Type 0 where
  pub at : (spot : Spot) → spot.depth ≡ d → is_outside spot ≡ false → LexedAt spot text ls

-- and so it is at the front of a line where no brace is open
pub record Outer (text : List ℕ) (ls : List Bare) : Type 0 where
  pub at : (spot : Spot) → spot.depth ≡ 0 → spot.first ≡ true → LexedAt spot text ls

-- nothing is left
pub outer_end : Outer [] []
outer_end = record { at = λ spot e f. record { pieces = []; make_up = refl; tokens = refl; bytes = refl } }

-- ---- one piece more at the front

pub front_taken : (front rest : List ℕ) → take (length front) (front ++ rest) ≡ front
front_taken front rest = take_at front rest (length front) refl

pub front_dropped : (front rest : List ℕ) → drop (length front) (front ++ rest) ≡ rest
front_dropped front rest = drop_at front rest (length front) refl

-- a piece at the front, where the rest is known
pub one_more : (spot : Spot) (kind : Option TokenKind) (front rest : List ℕ) (ls : List Bare) → AreBytes front → 0 < length front → piece_at spot (front ++ rest) ≡ piece kind (length front) → (kind ≡ Some Bad → ⊥) → LexedAt (behind spot kind front) rest ls → LexedAt spot (front ++ rest) (bare_kept kind front ++ ls)
one_more spot kind front rest ls h some e good r =
    let l = length-append front rest in
    let a = not_bad spot (front ++ rest) (piece kind (length front)) (omega arith) (sym e) good in
    record {
      pieces = piece kind (length front) ∷ r.pieces;
      make_up = inl (a, subst (λ t. Pieces (behind spot kind t) (drop (length front) (front ++ rest)) r.pieces) (sym (front_taken front rest)) (subst (λ t. Pieces (behind spot kind front) t r.pieces) (sym (front_dropped front rest)) r.make_up));
      tokens = ap (λ t. bare_kept kind t ++ bare_from (drop (length front) (front ++ rest)) r.pieces) (front_taken front rest) ∙ ap (λ t. bare_kept kind front ++ bare_from t r.pieces) (front_dropped front rest) ∙ ap (λ t. bare_kept kind front ++ t) r.tokens;
      bytes = every_append is_byte front rest h r.bytes;
    }

-- a piece that is no passive line
pub plain_more : (spot : Spot) (kind : Option TokenKind) (front rest : List ℕ) (ls : List Bare) → is_outside spot ≡ false → AreBytes front → 0 < length front → plain_at (front ++ rest) ≡ piece kind (length front) → (kind ≡ Some Bad → ⊥) → LexedAt (behind spot kind front) rest ls → LexedAt spot (front ++ rest) (bare_kept kind front ++ ls)
plain_more spot kind front rest ls o h some e good r = one_more spot kind front rest ls h some (piece_inside spot (front ++ rest) o ∙ e) good r

-- a token that opens and closes no brace
abbrev pub NoBrace : TokenKind → List ℕ → Type 0
NoBrace kind front = (spot : Spot) → (behind spot (Some kind) front).depth ≡ spot.depth

pub token_more : (d : ℕ) (kind : TokenKind) (front rest : List ℕ) (ls : List Bare) → NoBrace kind front → AreBytes front → 0 < length front → plain_at (front ++ rest) ≡ piece (Some kind) (length front) → (Some kind ≡ Some Bad → ⊥) → Lexed d rest ls → Lexed d (front ++ rest) (bare kind front ∷ ls)
token_more d kind front rest ls n h some e good r = record { at = λ spot k o. plain_more spot (Some kind) front rest ls o h some e good (r.at (behind spot (Some kind) front) (n spot ∙ k) refl) }

-- ---- the whole text

pub bare_taken : (text : List ℕ) (at n : ℕ) → take (at + n - at) (drop at text) ≡ take n (drop at text)
bare_taken text at n = ap (λ k. take k (drop at text)) (let z : at + n - at ≡ n = omega arith in z)

-- the first token of a row
pub bare_kept_first : (text : List ℕ) (at : ℕ) (kind : Option TokenKind) (n : ℕ) (ts : List Token) → map bare_of (lexemes text (kept text kind at (at + n) ++ ts)) ≡ bare_kept kind (take n (drop at text)) ++ map bare_of (lexemes text ts)
bare_kept_first text at None n ts = refl
bare_kept_first text at (Some kind) n ts = ap (λ t. bare kind t ∷ map bare_of (lexemes text ts)) (bare_taken text at n)

-- the tokens of a text have the kinds and bytes that were found
pub bare_tokens : (text : List ℕ) (at : ℕ) (ps : List Piece) → map bare_of (lexemes text (tokens_from text at ps)) ≡ bare_from (drop at text) ps
bare_tokens text at [] = refl
bare_tokens text at (p ∷ ps) = bare_kept_first text at p.kind p.size (tokens_from text (at + p.size) ps) ∙ ap (λ t. bare_kept p.kind (take p.size (drop at text)) ++ t) (bare_tokens text (at + p.size) ps ∙ ap (λ t. bare_from t ps) (sym (drop-drop p.size at text)))

-- a text within the limit has the tokens that were found
pub lexed_whole : (text : List ℕ) (ls : List Bare) → length text ≤ text_limit → Outer text ls → (ts : List Token) × Lexes text ts × (map bare_of (lexemes (take text_limit text) ts) ≡ ls)
lexed_whole text ls l o =
    let r = o.at text_start refl refl in
    let a : take text_limit text ≡ text = take_all text_limit text l in
    let us = tokens_from (take text_limit text) 0 r.pieces in
    let n : past_limit text us ≡ [] = if_false (nat_lt text_limit (length text)) _ [] (le-ltb text_limit (length text) l) in
    let m : bare_from (take text_limit text) r.pieces ≡ ls = ap (λ t. bare_from t r.pieces) a ∙ r.tokens in
    (us, (r.pieces, subst (λ t. Pieces text_start t r.pieces) (sym a) r.make_up, sym (ap (λ t. us ++ t) n ∙ append-nil us)), bare_tokens (take text_limit text) 0 r.pieces ∙ m)
