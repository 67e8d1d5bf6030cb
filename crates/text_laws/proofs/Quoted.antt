-- Names, labels and strings at the front of a text.
use Rattle.std.proofs.Common.{◌≡◌, ℕ, suc, ◌+◌, ◌<◌, List, [], ◌∷◌, ◌++◌, length, drop, Some, true, false, nat_lt, refl, sym, ap, ◌∙◌, subst, arith, codes, append_assoc, length-append, drop_at}
use Rattle.std.specs.List.{flat_map}
use Rattle.std.proofs.lemmas.Bool.{lt-ltb}
use Rattle.ir_core.specs.Bytes.{Hash, digit_byte, no_quote, every}
use Rattle.ir_core.specs.Formed.{is_byte}
use Rattle.ir_core.specs.Tokens.{TokenKind, Local, Global, Label, CText, Group, Bad, Led, IsDigits}
use Rattle.ir_core.specs.Scan.{run, class_at, piece, name_size, quoted_size, by_colon, by_name, by_class, quote_piece, word_piece, plain_at, passive_size, bad_piece}
use Rattle.ir_core.specs.Text.{is_word, name_text, escaped, quoted}
use Rattle.ir_core.specs.Tokens.{Text}
use Rattle.ir_core.proofs.Runs.{by_test, if_true, if_false, run_ended, every_append, digits_every, digits_some}
use Rattle.ir_core.proofs.Below.{quoted_made, name_made, size_made}
use Rattle.ir_core.proofs.Lexing.{piece_no_passive}
use Rattle.text_laws.proofs.Rows.{Bare, bare, Lexed, Outer, NoBrace, one_more, token_more}
use Rattle.text_laws.proofs.Endings.{Ends, ends_word}
use Rattle.text_laws.proofs.Lexed.{sign_piece, line_lexed, label_lexed}
use Rattle.text_laws.proofs.Joined.{Gives, Inner}
use Rattle.text_laws.specs.Spelling.{AreBytes}
use Rattle.text_laws.proofs.Escaped.{escaped_inner, quoted_text_bytes}

-- before a byte that ends words the text is one token of this kind
abbrev pub Begins : TokenKind → List ℕ → Type 0
Begins kind text = (rest : List ℕ) → Ends rest → plain_at (text ++ rest) ≡ piece (Some kind) (length text)

pub begins_gives : (kind : TokenKind) (text : List ℕ) → NoBrace kind text → AreBytes text → 0 < length text → (Some kind ≡ Some Bad → ⊥) → Begins kind text → Gives text (bare kind text ∷ [])
begins_gives kind text n h l g b = record { before = λ d rest ms e r. token_more d kind text rest ms n h l (b rest e) g r }

-- at the front of a line
pub begins_outer : (kind : TokenKind) (text rest : List ℕ) (ls : List Bare) → NoBrace kind text → AreBytes text → 0 < length text → (Some kind ≡ Some Bad → ⊥) → Begins kind text → Ends rest → passive_size (text ++ rest) ≡ 0 → Lexed 0 rest ls → Outer (text ++ rest) (bare kind text ∷ ls)
begins_outer kind text rest ls n h l g b e z r = record { at = λ spot k f. one_more spot (Some kind) text rest ls h l (piece_no_passive spot (text ++ rest) z ∙ b rest e) g (r.at _ (n spot ∙ k) refl) }

-- ---- quoted strings

quote_size : (q rest : List ℕ) → every no_quote q ≡ true → (run no_quote (q ++ 34 ∷ rest) ≡ length q) × (run no_quote (q ++ 34 ∷ rest) < length (q ++ 34 ∷ rest)) × (quoted_size (q ++ 34 ∷ rest) ≡ length q + 2)
quote_size q rest h =
    let r = (run_ended no_quote 34 q rest h refl).0 in
    let l : length (q ++ 34 ∷ rest) ≡ length q + suc (length rest) = length-append q (34 ∷ rest) in
    let s : run no_quote (q ++ 34 ∷ rest) < length (q ++ 34 ∷ rest) = omega arith in
    (r, s, quoted_made (q ++ 34 ∷ rest) s ∙ ap (λ n. n + 2) r)

abbrev inner : List ℕ → List ℕ
inner x = flat_map escaped x

quoted_length : (x : List ℕ) → length (quoted x) ≡ length (inner x) + 2
quoted_length x = let l : length (inner x ++ 34 ∷ []) ≡ length (inner x) + 1 = length-append (inner x) (34 ∷ []) in omega arith

quoted_then : (x rest : List ℕ) → quoted x ++ rest ≡ 34 ∷ (inner x ++ 34 ∷ rest)
quoted_then x rest = ap (λ (l : List ℕ). 34 ∷ l) (append_assoc (inner x) (34 ∷ []) rest)

-- a name behind its sign
name_begins : (kind : TokenKind) (x rest : List ℕ) → every is_byte x ≡ true → Ends rest → by_name kind (name_size (name_text x ++ rest)) ≡ piece (Some kind) (suc (length (name_text x)))
name_begins kind x rest h e = by_test (is_word x)
    (λ w. subst (λ t. by_name kind (name_size (t ++ rest)) ≡ piece (Some kind) (suc (length t))) (sym (if_true _ _ _ w)) (sign_piece kind x rest w e))
    (λ w. subst (λ t. by_name kind (name_size (t ++ rest)) ≡ piece (Some kind) (suc (length t))) (sym (if_false _ _ _ w)) in_quotes)
  where
    in_quotes : by_name kind (name_size (quoted x ++ rest)) ≡ piece (Some kind) (suc (length (quoted x)))
    in_quotes =
        let l = quoted_length x in
        ap (λ t. by_name kind (name_size t)) (quoted_then x rest)
        ∙ ap (by_name kind) (quote_size (inner x) rest (escaped_inner x h)).2
        ∙ name_made kind (length (inner x) + 2) (omega arith)
        ∙ ap (piece (Some kind)) (let z : length (inner x) + 2 + 1 ≡ suc (length (quoted x)) = omega arith in z)

pub local_begins : (x : List ℕ) → every is_byte x ≡ true → Begins Local (37 ∷ name_text x)
local_begins x h rest e = name_begins Local x rest h e

pub global_begins : (x : List ℕ) → every is_byte x ≡ true → Begins Global (64 ∷ name_text x)
global_begins x h rest e = name_begins Global x rest h e

-- a string behind a c
pub c_text_begins : (x : List ℕ) → every is_byte x ≡ true → Begins CText (99 ∷ quoted x)
c_text_begins x h rest e =
    let l = quoted_length x in
    let s = (quote_size (inner x) rest (escaped_inner x h)).2 in
    ap (λ t. plain_at (99 ∷ t)) (quoted_then x rest)
    ∙ size_made CText (quoted_size (inner x ++ 34 ∷ rest)) (word_piece (34 ∷ (inner x ++ 34 ∷ rest))) (omega arith)
    ∙ ap (piece (Some CText)) (let z : quoted_size (inner x ++ 34 ∷ rest) + 1 ≡ suc (length (quoted x)) = omega arith in z)

-- an attribute group
pub group_begins : (g : List ℕ) → Led Hash IsDigits g → Begins Group g
group_begins g (c, cs, e, k, d) = subst (Begins Group) (sym e) by
  where
    ended : (rest : List ℕ) → Ends rest → run digit_byte (cs ++ rest) ≡ length cs
    ended [] n = absurd (let f : false ≡ true = n in cc)
    ended (b ∷ rest) n = (run_ended digit_byte b cs rest (digits_every cs d) (ends_word b n).1).0

    by : Begins Group (c ∷ cs)
    by rest n =
        ap (λ a. by_class a c (cs ++ rest)) k
        ∙ ap (by_name Group) (ended rest n)
        ∙ name_made Group (length cs) (digits_some cs d)
        ∙ ap (piece (Some Group)) (let z : length cs + 1 ≡ suc (length cs) = omega arith in z)

-- ---- labels

quote_label : (q rest : List ℕ) → every no_quote q ≡ true → quote_piece (q ++ 34 ∷ 58 ∷ rest) ≡ piece (Some Label) (length q + 1 + 1 + 1)
quote_label q rest h =
    let s = quote_size q (58 ∷ rest) h in
    let cs = q ++ 34 ∷ 58 ∷ rest in
    let l : length (q ++ 34 ∷ []) ≡ length q + 1 = length-append q (34 ∷ []) in
    let d : drop (length q + 1) cs ≡ 58 ∷ rest = ap (drop (length q + 1)) (sym (append_assoc q (34 ∷ []) (58 ∷ rest))) ∙ drop_at (q ++ 34 ∷ []) (58 ∷ rest) (length q + 1) (omega arith) in
    if_true (nat_lt (run no_quote cs) (length cs)) (by_colon Text (class_at (drop (run no_quote cs + 1) cs)) (run no_quote cs + 1 + 1)) bad_piece (lt-ltb (run no_quote cs) (length cs) s.1)
    ∙ ap (λ n. by_colon Text (class_at (drop (n + 1) cs)) (n + 1 + 1)) s.0
    ∙ ap (λ t. by_colon Text (class_at t) (length q + 1 + 1)) d

quoted_label : (d : ℕ) (x rest : List ℕ) (ls : List Bare) → every is_byte x ≡ true → Lexed d rest ls → Lexed d (quoted x ++ 58 ∷ rest) (bare Label (quoted x ++ 58 ∷ []) ∷ ls)
quoted_label d x rest ls h r =
    let l = quoted_length x in
    let m : length (quoted x ++ 58 ∷ []) ≡ length (quoted x) + 1 = length-append (quoted x) (58 ∷ []) in
    let a : (quoted x ++ 58 ∷ []) ++ rest ≡ quoted x ++ 58 ∷ rest = append_assoc (quoted x) (58 ∷ []) rest in
    let p : plain_at ((quoted x ++ 58 ∷ []) ++ rest) ≡ piece (Some Label) (length (quoted x ++ 58 ∷ [])) =
    ap plain_at (a ∙ quoted_then x (58 ∷ rest)) ∙ quote_label (inner x) rest (escaped_inner x h) ∙ ap (piece (Some Label)) (let z : length (inner x) + 1 + 1 + 1 ≡ length (quoted x ++ 58 ∷ []) = omega arith in z) in
    subst (λ t. Lexed d t (bare Label (quoted x ++ 58 ∷ []) ∷ ls)) a (token_more d Label (quoted x ++ 58 ∷ []) rest ls (λ s. refl) (every_append is_byte (quoted x) (58 ∷ []) (quoted_text_bytes x h) refl) (omega arith) p (λ f. cc) r)

-- a label and the line end behind it
pub label_inner : (x : List ℕ) → every is_byte x ≡ true → Inner (name_text x ++ codes ":\n") (bare Label (name_text x ++ 58 ∷ []) ∷ [])
label_inner x h = record { before = λ d rest ms r. subst (λ t. Lexed (d + 1) t (bare Label (name_text x ++ 58 ∷ []) ∷ ms)) (sym (append_assoc (name_text x) (codes ":\n") rest)) (by (d + 1) (10 ∷ rest) ms (line_lexed d rest ms r)) }
  where
    by : (d : ℕ) (rest : List ℕ) (ls : List Bare) → Lexed d rest ls → Lexed d (name_text x ++ 58 ∷ rest) (bare Label (name_text x ++ 58 ∷ []) ∷ ls)
    by d rest ls r = by_test (is_word x)
        (λ w. subst (λ t. Lexed d (t ++ 58 ∷ rest) (bare Label (t ++ 58 ∷ []) ∷ ls)) (sym (if_true _ _ _ w)) (label_lexed d x rest ls w r))
        (λ w. subst (λ t. Lexed d (t ++ 58 ∷ rest) (bare Label (t ++ 58 ∷ []) ∷ ls)) (sym (if_false _ _ _ w)) (quoted_label d x rest ls h r))
