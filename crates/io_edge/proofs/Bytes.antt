-- Bytes that are taken one piece after another, and read one piece after another.
use Rattle.std.proofs.Common.{◌≡◌, ℕ, ◌+◌, ◌-◌, ◌<◌, ◌≤◌, List, ◌++◌, length, take, drop, Option, Some, None, IfSome, sym, ap, ◌∙◌, append_assoc, subst, arith, take-add, length-drop, length-take}
use Rattle.std.proofs.Math.Seq.{take-append-add}
use Rattle.std.proofs.lemmas.List.{take_all, take-take, take-append-le}
use Rattle.io_edge.specs.Outside.{Grows, GivesFrom, ReadsMore}

-- what was taken has grown by one more piece
pub grows_more : (a b c : Option (List ℕ)) (xs : List ℕ) (at n : ℕ) → Grows a b (take at xs) → Grows b c (take n (drop at xs)) → Grows a c (take (at + n) xs)
grows_more None b c xs at n g h = tt
grows_more (Some x) None c xs at n g h = absurd g
grows_more (Some x) (Some y) None xs at n g h = absurd h
grows_more (Some x) (Some y) (Some z) xs at n g h = h ∙ ap (λ v. v ++ take n (drop at xs)) g ∙ append_assoc x (take at xs) (take n (drop at xs)) ∙ ap (λ v. x ++ v) (sym (take-add at n xs))

-- the same, of a slice from a place on
pub grows_by_slice : (a b c : Option (List ℕ)) (xs : List ℕ) (at n : ℕ) → at ≤ length xs → Grows a b (take at xs) → Grows b c (take n (take (length xs - at) (drop at xs))) → Grows a c (take (at + n) xs)
grows_by_slice a b c xs at n le g h =
    let whole : take (length xs - at) (drop at xs) ≡ drop at xs = take_all (length xs - at) (drop at xs) (omega (arith, length-drop at xs)) in
    grows_more a b c xs at n g (subst (λ ys. Grows b c (take n ys)) whole h)

-- a buffer of which a part behind the front was written anew
abbrev pub with_part : ℕ → List ℕ → List ℕ → List ℕ → List ℕ → List ℕ
with_part len front part behind rest = take len (front ++ (part ++ behind) ++ rest)

-- its front, and the first bytes of the part
pub front_after : (len : ℕ) (front part behind rest : List ℕ) (count : ℕ) → length front + length part ≤ len → count ≤ length part → take (length front + count) (with_part len front part behind rest) ≡ front ++ take count part
front_after len front part behind rest count room within =
    take-take (length front + count) len (front ++ (part ++ behind) ++ rest) (omega arith)
    ∙ ap (take (length front + count)) (append_assoc front (part ++ behind) rest)
    ∙ take-append-add front ((part ++ behind) ++ rest) count
    ∙ ap (λ v. front ++ take count v) (append_assoc part behind rest)
    ∙ ap (λ v. front ++ v) (take-append-le count part (behind ++ rest) within)

-- a buffer after a read into the part behind its front
pub reads_more : (told : Option (List ℕ)) (at filled count len : ℕ) (before bytes part behind rest : List ℕ) →
    at ≡ filled → take filled bytes ≡ take filled before → filled ≤ length bytes → filled + length part ≤ len → 0 < length part → count ≤ length part → GivesFrom told at part count →
    ReadsMore told before filled (with_part len (take filled bytes) part behind rest) count
reads_more None at filled count len before bytes part behind rest here kept fills room some within gives = tt
reads_more (Some content) at filled count len before bytes part behind rest here kept fills room some within gives =
    λ front.
    let given : GivesFrom (Some content) filled part count = subst (λ k. GivesFrom (Some content) k part count) here gives in
    let size : length (take filled bytes) ≡ filled = omega (arith, length-take filled bytes) in (
      ap (λ k. take (k + count) (with_part len (take filled bytes) part behind rest)) (sym size)
          ∙ front_after len (take filled bytes) part behind rest count (omega arith) within
          ∙ ap (λ v. v ++ take count part) (kept ∙ front)
          ∙ ap (λ v. take filled content ++ v) given.0
          ∙ sym (take-add filled count content),
      λ none. given.1 none some,
    )

-- the bytes are the whole limit
pub at_limit : (told : Option (List ℕ)) (limit filled : ℕ) (bytes : List ℕ) → filled ≡ limit → IfSome told (λ content. take filled bytes ≡ take filled content) → IfSome told (λ content. take filled bytes ≡ take limit content)
at_limit told limit filled bytes e = subst (λ n. IfSome told (λ content. take filled bytes ≡ take n content)) e

-- the bytes are the whole content
pub at_end : (before told : Option (List ℕ)) (limit filled count : ℕ) (bytes after : List ℕ) → before ≡ told → ReadsMore before bytes filled after count → count ≡ 0 → filled ≤ limit → IfSome told (λ content. take filled bytes ≡ take filled content) → IfSome told (λ content. take filled after ≡ take limit content)
at_end before None limit filled count bytes after same more none few front = tt
at_end before (Some content) limit filled count bytes after same more none few front =
    let read = (subst (λ o. ReadsMore o bytes filled after count) same more) front in
    let ends : length content ≤ filled = read.1 none in
    ap (λ k. take k after) (omega arith)
    ∙ read.0
    ∙ take_all (filled + count) content (omega arith)
    ∙ sym (take_all limit content (omega arith))

-- the same of what is left of a buffer that is cut at the filled front
pub cut : (told : Option (List ℕ)) (limit filled : ℕ) (whole bytes left : List ℕ) → left ≡ take filled whole → whole ≡ bytes → IfSome told (λ content. take filled bytes ≡ take limit content) → IfSome told (λ content. left ≡ take limit content)
cut told limit filled whole bytes left is same = subst (λ kept. IfSome told (λ content. kept ≡ take limit content)) (sym (is ∙ ap (take filled) same))
