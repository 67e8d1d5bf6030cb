-- What the pieces of a text show of its tokens.
use Rattle.std.proofs.Common.{◌≡◌, ℕ, zero, suc, List, [], ◌∷◌, ◌++◌, take, drop, map, Option, Some, None, true, refl, sym, subst, inl, inr}
use Rattle.std.specs.List.{AllByRecursion}
use Rattle.ir_core.specs.Bytes.{every}
use Rattle.ir_core.specs.Formed.{is_byte}
use Rattle.ir_core.specs.Tokens.{TokenKind, Group, Passive, Bad, Is, Spot, behind, Piece, Pieces, IsBad, Lexeme, lexemes, tokens_from}
use Rattle.ir_core.proofs.Runs.{every_first, every_taken}
use Rattle.text_laws.specs.Spelling.{Shaped, IsFine, AllFine}
use Rattle.text_laws.proofs.Rows.{Bare, bare, bare_of, bare_kept, bare_from, bare_tokens}
use Rattle.text_laws.proofs.Each.{each_append, each_parted}

abbrev FineBare : Bare → Type 0
FineBare b = IsFine b.kind b.bytes

abbrev AllBare : List Bare → Type 0
AllBare = AllByRecursion FineBare

every_dropped : (n : ℕ) (xs : List ℕ) → every is_byte xs ≡ true → every is_byte (drop n xs) ≡ true
every_dropped zero xs h = h
every_dropped (suc n) [] h = refl
every_dropped (suc n) (x ∷ xs) h = every_dropped n xs (every_first is_byte x xs h).1

shaped : (spot : Spot) (kind : TokenKind) (xs : List ℕ) → Is spot (Some kind) xs → Shaped kind xs
shaped spot Group xs h = h.0
shaped spot Passive xs h = h.1
shaped spot _ xs h = tt

kept_fine : (spot : Spot) (kind : Option TokenKind) (xs : List ℕ) → every is_byte xs ≡ true → Is spot kind xs → AllBare (bare_kept kind xs)
kept_fine spot None xs b h = tt
kept_fine spot (Some kind) xs b h = (record { bytes = b; shape = shaped spot kind xs h }, tt)

bad_fine : (spot : Spot) (text : List ℕ) (p : Piece) (ps : List Piece) → every is_byte text ≡ true → IsBad spot text p ps → AllBare (bare_from text (p ∷ ps))
bad_fine spot text p ps b h =
    subst (λ q. AllBare (bare_kept q.kind (take q.size text) ++ bare_from (drop q.size text) ps)) (sym h.0)
    (subst (λ qs. AllBare (bare Bad (take 1 text) ∷ bare_from (drop 1 text) qs)) (sym h.1) (record { bytes = every_taken is_byte 1 text b; shape = tt }, tt))

pieces_fine : (spot : Spot) (text : List ℕ) (ps : List Piece) → every is_byte text ≡ true → Pieces spot text ps → AllBare (bare_from text ps)
pieces_fine spot text [] b h = tt
pieces_fine spot text (p ∷ ps) b (inl h) = each_append FineBare (bare_kept p.kind (take p.size text)) (bare_from (drop p.size text) ps) (kept_fine spot p.kind (take p.size text) (every_taken is_byte p.size text b) h.0.is) (pieces_fine (behind spot p.kind (take p.size text)) (drop p.size text) ps (every_dropped p.size text b) h.1)
pieces_fine spot text (p ∷ ps) b (inr h) = bad_fine spot text p ps b h

all_fine : (ts : List Lexeme) → AllBare (map bare_of ts) → AllFine ts
all_fine [] h = tt
all_fine (t ∷ ts) h = (h.0, all_fine ts h.1)

-- the tokens of a text of bytes
pub tokens_fine : (spot : Spot) (text : List ℕ) (ps : List Piece) → every is_byte text ≡ true → Pieces spot text ps → AllFine (lexemes text (tokens_from text 0 ps))
tokens_fine spot text ps b h = all_fine (lexemes text (tokens_from text 0 ps)) (subst AllBare (sym (bare_tokens text 0 ps)) (pieces_fine spot text ps b h))

-- the tokens of two rows
abbrev FineLexeme : Lexeme → Type 0
FineLexeme t = IsFine t.kind t.bytes

pub both_fine : (front rest : List Lexeme) → AllFine front → AllFine rest → AllFine (front ++ rest)
both_fine front rest h k = each_append FineLexeme front rest h k

pub fine_parts : (ts front rest : List Lexeme) → ts ≡ front ++ rest → AllFine ts → AllFine front × AllFine rest
fine_parts ts front rest e h = each_parted FineLexeme front rest (subst AllFine e h)
