-- The place behind a token.
use Rattle.std.proofs.Common.{◌≡◌, ℕ, ◌+◌, ◌-◌, ◌≤◌, ◌<◌, List, length, take, drop, Bool, true, false, cond, refl, ◌∙◌, ap, arith, codes, ◌==◌}
use Rattle.std.specs.Str.{bytes_eq}
use Rattle.ir_core.specs.Tokens as meaning
use Rattle.ir_core.specs.Tokens.{Spot, line_at, line_ends, open_behind}
use Rattle.ir_core.proofs.Lexing.{line_moves, line_small}
use Rattle.ir_lex.specs.declared.gaps.Place.{Place}
use Rattle.ir_lex.specs.declared.scan.Piece.{Piece}
use Rattle.ir_lex.specs.Seen.{kind_seen}
use Rattle.ir_lex.specs.Scanned.{IsPlace, IsBehind}

-- a token opens one brace at most
open_small : (kind : meaning.TokenKind) (xs : List ℕ) (n : ℕ) → open_behind kind xs n ≤ n + 1
open_small (meaning.Mark m) xs n = by (m == 123) (m == 125)
  where
    by : (b d : Bool) → cond b (n + 1) (cond d (n - 1) n) ≤ n + 1
    by true d = omega arith
    by false true = omega arith
    by false false = omega arith
open_small meaning.Meta xs n = by (bytes_eq xs (codes "!{"))
  where
    by : (b : Bool) → cond b (n + 1) n ≤ n + 1
    by true = omega arith
    by false = omega arith
open_small _ xs n = omega arith

-- the bytes of a token
token_bytes : (text : List ℕ) (at n : ℕ) → take (at + n - at) (drop at text) ≡ take n (drop at text)
token_bytes text at n = ap (λ k. take k (drop at text)) (let z : at + n - at ≡ n = omega arith in z)

-- the line behind a token
pub line_behind : (text : List ℕ) (place : Place) (n line : ℕ) → IsPlace text place → line ≡ line_ends (take (place.at + n - place.at) (drop place.at text)) → place.line + line ≡ line_at text (place.at + n)
line_behind text place n line p e =
    let k : line ≡ line_ends (take n (drop place.at text)) = e ∙ ap line_ends (token_bytes text place.at n) in
    let m = line_moves text place.at n in
    let l = p.line_is in
    omega arith

pub line_fits : (text : List ℕ) (place : Place) (n line : ℕ) → IsPlace text place → place.at + n ≤ length text → line ≡ line_ends (take (place.at + n - place.at) (drop place.at text)) → place.line + line ≤ length text + 1
line_fits text place n line p l e =
    let b = line_behind text place n line p e in
    let s = line_small text (place.at + n) l in
    omega arith

pub is_behind : (text : List ℕ) (place : Place) (token : Piece) (line depth : ℕ) → IsPlace text place → 0 < token.size → place.at + token.size ≤ length text → line ≡ line_ends (take (place.at + token.size - place.at) (drop place.at text)) → depth ≡ open_behind (kind_seen token.kind) (take (place.at + token.size - place.at) (drop place.at text)) place.depth → IsBehind text place token (record { at = place.at + token.size; line = place.line + line; depth = depth; first = false })
is_behind text place token line depth p s l e d =
    let k = open_small (kind_seen token.kind) (take (place.at + token.size - place.at) (drop place.at text)) place.depth in
    let q = p.shallow in
    let z : depth ≡ open_behind (kind_seen token.kind) (take token.size (drop place.at text)) place.depth = d ∙ ap (λ (x : List ℕ). open_behind (kind_seen token.kind) x place.depth) (token_bytes text place.at token.size) in
    record {
      is_place = record { inside = l; line_is = line_behind text place token.size line p e; shallow = omega arith };
      at_is = refl;
      spot_is = λ i. record { depth = z i; first = false };
    }
