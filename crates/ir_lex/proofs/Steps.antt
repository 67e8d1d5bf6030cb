-- One token more, the last of them, and a bad one.
use Rattle.std.proofs.Common.{◌≡◌, ℕ, ◌+◌, ◌≤◌, ◌<◌, List, [], ◌∷◌, ◌++◌, length, take, drop, Some, Bool, true, false, cond, refl, sym, ◌∙◌, ap, subst, arith}
use Rattle.std.proofs.lemmas.List.{map-append, append-nil}
use Rattle.ir_core.specs.Tokens as meaning
use Rattle.ir_core.specs.Tokens.{line_at, kept, has_bad, is_bad_kind, text_start}
use Rattle.ir_core.specs.Scan.{piece_at, Reads, ReadsAll}
use Rattle.ir_core.proofs.Lexing.{reads_then, reads_here, bad_here, reads_all, reads_to_bad, has_bad-append}
use Rattle.ir_lex.specs.declared.gaps.Place.{Place}
use Rattle.ir_lex.specs.declared.scan.Piece.{Piece}
use Rattle.ir_lex.specs.declared.token.Token.{Token}
use Rattle.ir_lex.specs.Seen.{kind_seen, token_seen, tokens_seen}
use Rattle.ir_lex.specs.Scanned.{piece_seen, spot_seen, IsPlace, IsBehind, IsGap, BeginsToken, SoFar, IsRead}

abbrev pub token_of : Piece → Place → Token
token_of piece place = record { kind = piece.kind; start = place.at; end = place.at + piece.size; line = place.line }

-- the piece stands at this place
pub record StandsAt (text : List ℕ) (piece : Piece) (place : Place) : Type 0 where
  pub inside : place.at < length text
  pub is : piece_seen piece ≡ piece_at (spot_seen place) (drop place.at text)

not_bad_kind : (k : meaning.TokenKind) → is_bad_kind k ≡ false → k ≡ meaning.Bad → ⊥
not_bad_kind k g e = let f : true ≡ false = sym (ap is_bad_kind e) ∙ g in cc

bad_kind : (k : meaning.TokenKind) → is_bad_kind k ≡ true → k ≡ meaning.Bad
bad_kind meaning.Bad g = refl
bad_kind _ g = cc

-- the token is seen as the piece is kept
seen_kept : (text : List ℕ) (tokens : List Token) (piece : Piece) (place : Place) → IsPlace text place → tokens_seen (tokens ++ token_of piece place ∷ []) ≡ tokens_seen tokens ++ kept text (Some (kind_seen piece.kind)) place.at (place.at + piece.size)
seen_kept text tokens piece place p =
    map-append token_seen tokens (token_of piece place ∷ [])
    ∙ ap (λ n. tokens_seen tokens ++ record { kind = kind_seen piece.kind; start = place.at; end = place.at + piece.size; line = n } ∷ []) p.line_is

has_bad_one : (b : Bool) → cond b true false ≡ b
has_bad_one true = refl
has_bad_one false = refl

bad_of : (tokens : List Token) (piece : Piece) (place : Place) → has_bad (tokens_seen tokens) ≡ false → has_bad (tokens_seen (tokens ++ token_of piece place ∷ [])) ≡ is_bad_kind (kind_seen piece.kind)
bad_of tokens piece place g =
    ap has_bad (map-append token_seen tokens (token_of piece place ∷ []))
    ∙ has_bad-append (tokens_seen tokens) (token_seen (token_of piece place) ∷ []) g
    ∙ has_bad_one (is_bad_kind (kind_seen piece.kind))

pub token_more : (text : List ℕ) (tokens : List Token) (place end next : Place) (piece : Piece) → SoFar text tokens place → StandsAt text piece place → is_bad_kind (kind_seen piece.kind) ≡ false → IsBehind text place piece end → IsGap text end next → BeginsToken text next.at → SoFar text (tokens ++ token_of piece place ∷ []) next
token_more text tokens place end next piece s h g behind gap begins =
    let b : Some (kind_seen piece.kind) ≡ Some meaning.Bad → ⊥ = λ e. not_bad_kind (kind_seen piece.kind) g (cc) in
    let spot = spot_seen place in
    let here : Reads text spot place.at (spot_seen end) end.at (kept text (Some (kind_seen piece.kind)) place.at (place.at + piece.size)) = subst (λ t. Reads text spot place.at t end.at (kept text (Some (kind_seen piece.kind)) place.at (place.at + piece.size))) (sym behind.spot_is) (subst (λ n. Reads text spot place.at (meaning.behind spot (Some (kind_seen piece.kind)) (take piece.size (drop place.at text))) n (kept text (Some (kind_seen piece.kind)) place.at (place.at + piece.size))) (sym behind.at_is) (reads_here text spot place.at (piece_seen piece) h.inside h.is b)) in
    let one = reads_then text text_start spot (spot_seen end) 0 place.at end.at (tokens_seen tokens) (kept text (Some (kind_seen piece.kind)) place.at (place.at + piece.size)) s.reads here in
    let one_seen = subst (Reads text text_start 0 (spot_seen end) end.at) (sym (seen_kept text tokens piece place s.is_place)) one in
    let both = reads_then text text_start (spot_seen end) (spot_seen next) 0 end.at next.at (tokens_seen (tokens ++ token_of piece place ∷ [])) [] one_seen gap.reads in
    record {
      is_place = gap.is_place;
      begins = begins;
      reads = subst (Reads text text_start 0 (spot_seen next) next.at) (append-nil (tokens_seen (tokens ++ token_of piece place ∷ []))) both;
      good = bad_of tokens piece place s.good ∙ g;
    }

pub none_so_far : (text : List ℕ) (start next : Place) → start.at ≡ 0 → spot_seen start ≡ text_start → IsGap text start next → BeginsToken text next.at → SoFar text [] next
none_so_far text start next e k gap begins = record {
  is_place = gap.is_place;
  begins = begins;
  reads = subst (λ t. Reads text t 0 (spot_seen next) next.at []) k (subst (λ n. Reads text (spot_seen start) n (spot_seen next) next.at []) e gap.reads);
  good = refl;
}

pub bad_token : (text : List ℕ) (tokens : List Token) (place : Place) (piece : Piece) → SoFar text tokens place → StandsAt text piece place → is_bad_kind (kind_seen piece.kind) ≡ true → IsRead text (record { tokens = tokens ++ token_of piece place ∷ []; bad = true; line = place.line })
bad_token text tokens place piece s h g =
    let k = bad_kind (kind_seen piece.kind) g in
    let b = bad_here text (spot_seen place) place.at (piece_seen piece) h.inside h.is (ap (λ x. Some x) k) in
    record {
      reads = subst (ReadsAll text) (sym (seen_kept text tokens piece place s.is_place ∙ ap (λ (q : meaning.Piece). tokens_seen tokens ++ kept text q.kind place.at (place.at + q.size)) b.0)) (reads_to_bad text (spot_seen place) place.at (tokens_seen tokens) s.reads b.1);
      bad = bad_of tokens piece place s.good ∙ g;
      line_is = λ e. let f : true ≡ false = e in cc;
    }

pub all_read : (text : List ℕ) (tokens : List Token) (place : Place) → SoFar text tokens place → length text ≤ place.at → IsRead text (record { tokens = tokens; bad = false; line = place.line })
all_read text tokens place s l =
    let i = s.is_place.inside in
    let e : place.at ≡ length text = omega arith in
    record {
      reads = reads_all text (spot_seen place) place.at (tokens_seen tokens) s.reads l;
      bad = s.good;
      line_is = λ f. s.is_place.line_is ∙ ap (line_at text) e;
    }
