-- A text of bytes that spells a module shows that the module is formed.
use Rattle.std.proofs.Common.{◌≡◌, ℕ, List, [], ◌∷◌, ◌++◌, length, take, Bool, true, false, cond, nat_lt, refl, subst}
use Rattle.std.proofs.lemmas.List.{append-nil, map-append}
use Rattle.ir_core.specs.Formed.{is_byte}
use Rattle.ir_core.specs.Language.{module_to_end}
use Rattle.ir_core.specs.Tokens.{Past, Token, Lexeme, lexeme_of, lexemes, text_limit, tokens_from, has_bad, with_past}
use Rattle.ir_core.proofs.Runs.{every_taken}
use Rattle.formed_laws.specs.Reading.{ReadIsFormed}
use Rattle.formed_laws.proofs.Within.{IsWithin, AllWithin, second_within}
use Rattle.formed_laws.proofs.ItemsWithin.{within_module}

-- what ends a text that is longer than the limit, by the tests: it is longer, and a byte has ended its tokens
abbrev ended : Bool → Bool → Token → List Token
ended longer bad t = cond longer (cond bad [] (t ∷ [])) []

-- where no token stands for bytes behind the limit, nothing is added at the end
none_past : (longer bad : Bool) (text : List ℕ) (t : Token) (ts : List Token) → t.kind ≡ Past → AllWithin (lexemes text (ts ++ ended longer bad t)) → ts ++ ended longer bad t ≡ ts
none_past false bad text t ts p h = append-nil ts
none_past true true text t ts p h = append-nil ts
none_past true false text t ts p h =
    let s : AllWithin (lexemes text ts ++ lexeme_of text t ∷ []) = subst AllWithin (map-append (lexeme_of text) ts (t ∷ [])) h in
    absurd (past_within (lexeme_of text t) p (second_within (lexemes text ts) (lexeme_of text t ∷ []) s).0)
  where
    past_within : (t : Lexeme) → t.kind ≡ Past → IsWithin t.kind → ⊥
    past_within t p h = subst IsWithin p h

pub read_is_formed : ReadIsFormed
read_is_formed text m bytes r =
    let near = take text_limit text in
    let ps = r.1.0 in
    let ts = tokens_from near 0 ps in
    let spells : module_to_end (lexemes near (with_past text ts)) m = subst (λ us. module_to_end (lexemes near us) m) r.1.2 r.2 in
    let same : with_past text ts ≡ ts = none_past (nat_lt text_limit (length text)) (has_bad ts) near _ ts refl (within_module.all _ m spells) in
    record {
      text = near;
      bytes = every_taken is_byte text_limit text bytes;
      pieces = ps;
      whole = r.1.1;
      spelled = m;
      spells = subst (λ us. module_to_end (lexemes near us) m) same spells;
      same = refl;
    }
