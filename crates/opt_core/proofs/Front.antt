-- A text's front up to the limit and one byte spells what the text spells.
use Rattle.std.proofs.Common.{◌≡◌, ◌⊎◌, ℕ, ◌+◌, ◌<◌, ◌≤◌, min, List, [], ◌∷◌, ◌++◌, length, take, nat_lt, Bool, Option, Some, None, IfSome, sym, ap, ◌∙◌, subst, arith, if◌then◌else◌, inl, inr, length-take}
use Rattle.std.proofs.lemmas.List.{take-take}
use Rattle.std.proofs.lemmas.Bool.{lt-ltb, le-ltb, cases_lt}
use Rattle.ir_core.specs.declared.module.Module.{Module}
use Rattle.ir_core.specs.Tokens.{Token, Past, text_start, Pieces, tokens_from, text_limit, has_bad, past_limit, with_past, line_ends, Lexes, lexemes}
use Rattle.ir_core.specs.declared.refusal.Refusal.{Refusal}
use Rattle.ir_core.specs.Spell.{IsFirstRefused}
use Rattle.ir_core.specs.Language.{module_to_end, Reads}
use Rattle.ir_core.specs.TextRefusals.{IsTextRefusal, IsRefusalAt}
use Rattle.opt_core.specs.Answer.{Accepts, IsRefusal, IsTextRefused, IsTextReply, OfText, IsFileReply}

abbrev read_limit : ℕ
read_limit = text_limit + 1

-- what reading tells apart in a text: the bytes up to the limit, and whether there are more
record Alike (a b : List ℕ) : Type 0 where
  fronts : take text_limit a ≡ take text_limit b
  longer : nat_lt text_limit (length a) ≡ nat_lt text_limit (length b)

past_same : (a b : List ℕ) (ts : List Token) → Alike a b → past_limit a ts ≡ past_limit b ts
past_same a b ts e =
    ap (λ bs. if nat_lt text_limit (length a) then (if has_bad ts then [] else record { kind = Past; start = text_limit; end = text_limit + 1; line = line_ends bs + 1 } ∷ []) else []) e.fronts
    ∙ ap (λ (l : Bool). if l then (if has_bad ts then [] else record { kind = Past; start = text_limit; end = text_limit + 1; line = line_ends (take text_limit b) + 1 } ∷ []) else []) e.longer

lexes_same : (a b : List ℕ) (ts : List Token) → Alike a b → Lexes a ts → Lexes b ts
lexes_same a b ts e (ps, pieces, same) = (
  ps,
  subst (λ t. Pieces text_start t ps) e.fronts pieces,
  same ∙ ap (λ t. with_past a (tokens_from t 0 ps)) e.fronts ∙ ap (λ past. tokens_from (take text_limit b) 0 ps ++ past) (past_same a b (tokens_from (take text_limit b) 0 ps) e),
)

reads_same : (a b : List ℕ) (m : Module) → Alike a b → Reads a m → Reads b m
reads_same a b m e (ts, lexed, spelled) = (ts, lexes_same a b ts e lexed, subst (λ t. module_to_end (lexemes t ts) m) e.fronts spelled)

text_refusal_same : (a b : List ℕ) (r : Refusal) → Alike a b → IsTextRefusal a r → IsTextRefusal b r
text_refusal_same a b r e h =
    let p = subst (λ (l : List ℕ). (first : IsFirstRefused module_to_end (lexemes l h.tokens) h.left) × IsRefusalAt l first.front first.rest r) e.fronts (h.first, h.told) in
    record { tokens = h.tokens; lexes = lexes_same a b h.tokens e h.lexes; left = h.left; first = p.0; told = p.1 }

refusal_same : (a b : List ℕ) (r : Refusal) → Alike a b → IsRefusal a r → IsRefusal b r
refusal_same a b r e (inl h) = inl (text_refusal_same a b r e h)
refusal_same a b r e (inr (inl (m, reads, refused))) = inr (inl (m, reads_same a b m e reads, refused))
refusal_same a b r e (inr (inr (m, reads, rules, call))) = inr (inr (m, reads_same a b m e reads, rules, call))

turned : (a b : List ℕ) → Alike a b → Alike b a
turned a b e = record { fronts = sym e.fronts; longer = sym e.longer }

alike : (text : List ℕ) → Alike (take read_limit text) text
alike text = record {
  fronts = take-take text_limit read_limit text (omega arith);
  longer = by_length (cases_lt text_limit (length text));
}
  where
    n : length (take read_limit text) ≡ min read_limit (length text)
    n = length-take read_limit text

    by_length : (text_limit < length text) ⊎ (length text ≤ text_limit) → nat_lt text_limit (length (take read_limit text)) ≡ nat_lt text_limit (length text)
    by_length (inl long) = lt-ltb text_limit (length (take read_limit text)) (omega (arith, n)) ∙ sym (lt-ltb text_limit (length text) long)
    by_length (inr short) = le-ltb text_limit (length (take read_limit text)) (omega (arith, n)) ∙ sym (le-ltb text_limit (length text) short)

pub accepts_front : (text : List ℕ) (m : Module) → Accepts text m → Accepts (take read_limit text) m
accepts_front text m (reads, rules, calls) = (reads_same text (take read_limit text) m (turned (take read_limit text) text (alike text)) reads, rules, calls)

pub accepts_whole : (text : List ℕ) (m : Module) → Accepts (take read_limit text) m → Accepts text m
accepts_whole text m (reads, rules, calls) = (reads_same (take read_limit text) text m (alike text) reads, rules, calls)

pub refused_whole : (text : List ℕ) (status : ℕ) (out notes : List ℕ) → IsTextRefused (take read_limit text) status out notes → IsTextRefused text status out notes
refused_whole text status out notes (r, refusal, none, note) = (r, refusal_same (take read_limit text) text r (alike text) refusal, (λ m accepts. none m (accepts_front text m accepts)), note)

pub reply_whole : (status : ℕ) (out notes : List ℕ) (text : List ℕ) → IsTextReply (take read_limit text) status out notes → IsTextReply text status out notes
reply_whole status out notes text (inl (m, accepts, refines, s, o, n)) = inl (m, accepts_whole text m accepts, refines, s, o, n)
reply_whole status out notes text (inr refused) = inr (refused_whole text status out notes refused)

-- what holds of the bytes read of a file holds of its text
pub of_read : (Holds : List ℕ → Type 0) (limit : ℕ) (held : Option (List ℕ)) (bytes : List ℕ) → ((text : List ℕ) → Holds (take limit text) → Holds text) → IfSome held (λ content. bytes ≡ take limit content) → Holds bytes → OfText held Holds
of_read Holds limit None bytes whole e h = (bytes, h)
of_read Holds limit (Some content) bytes whole e h = whole content (subst Holds e h)

-- what is replied to the bytes read is the reply to the file
pub file_reply : (held : Option (List ℕ)) (bytes : List ℕ) (status : ℕ) (out notes : List ℕ) → IfSome held (λ content. bytes ≡ take read_limit content) → IsTextReply bytes status out notes → IsFileReply held status out notes
file_reply held bytes status out notes = of_read (λ text. IsTextReply text status out notes) read_limit held bytes (reply_whole status out notes)
