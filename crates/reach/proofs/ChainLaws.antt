-- Laws of chains, over any relation.
use Rattle.std.proofs.Common.{List, [], ◌∷◌, ◌++◌, ◌↔◌, refl, sym, subst}
use Rattle.reach.specs.Chains.{Chain, Leads}

-- a thing leads to itself
pub leads_itself : {A : Type 0} (Hop : A → A → Type 0) (x : A) → Leads Hop x x
leads_itself Hop x = ([], refl)

chain_through : {A : Type 0} (Hop : A → A → Type 0) (x y z : A) (first second : List A) → Chain Hop x first y → Chain Hop y second z → Chain Hop x (first ++ second) z
chain_through {A} Hop x y z [] second c d = let P : A → Type 0 = λ a. Chain Hop a second z in subst P (sym c) d
chain_through Hop x y z (w ∷ ws) second c d = (c.0, chain_through Hop w y z ws second c.1 d)

-- chains go one behind the other
pub leads_through : {A : Type 0} (Hop : A → A → Type 0) (x y z : A) → Leads Hop x y → Leads Hop y z → Leads Hop x z
leads_through Hop x y z c d = (c.0 ++ d.0, chain_through Hop x y z c.0 d.0 c.1 d.1)

-- a hop is a chain
pub leads_by_hop : {A : Type 0} (Hop : A → A → Type 0) (x y : A) → Hop x y → Leads Hop x y
leads_by_hop Hop x y h = (y ∷ [], (h, refl))

-- a chain goes on by a hop
pub leads_on : {A : Type 0} (Hop : A → A → Type 0) (x y z : A) → Leads Hop x y → Hop y z → Leads Hop x z
leads_on Hop x y z c h = leads_through Hop x y z c (leads_by_hop Hop y z h)

chain_least : {A : Type 0} (Hop : A → A → Type 0) (P : A → Type 0) → ((x y : A) → P x → Hop x y → P y) → (x y : A) (through : List A) → P x → Chain Hop x through y → P y
chain_least {A} Hop P closed x y [] h c = subst P c h
chain_least Hop P closed x y (z ∷ zs) h c = chain_least Hop P closed z y zs (closed x z h c.0) c.1

-- what holds at the start and is kept by each hop holds wherever a chain leads
pub leads_least : {A : Type 0} (Hop : A → A → Type 0) (P : A → Type 0) → ((x y : A) → P x → Hop x y → P y) → (x y : A) → P x → Leads Hop x y → P y
leads_least Hop P closed x y h c = chain_least Hop P closed x y c.0 h c.1

-- chains of hops are chains of all that each of these hops is
pub leads_as : {A : Type 0} (Hop Other : A → A → Type 0) → ((a b : A) → Hop a b → Other a b) → (x y : A) → Leads Hop x y → Leads Other x y
leads_as Hop Other as_other x y c = leads_least Hop (Leads Other x) (λ a b d h. leads_on Other x a b d (as_other a b h)) x y (leads_itself Other x) c

turn : {A : Type 0} (Hop : A → A → Type 0) (x y : A) → Leads Hop x y → Leads (λ a b. Hop b a) y x
turn {A} Hop x y c =
    let Back : A → A → Type 0 = λ a b. Hop b a in
    leads_least Hop (λ a. Leads Back a x) (λ a b d h. leads_through Back b a x (leads_by_hop Back b a h) d) x y (leads_itself Back x) c

-- the hops turned round lead back, and nowhere else
pub turned : {A : Type 0} (Hop : A → A → Type 0) (x y : A) → Leads (λ a b. Hop b a) y x ↔ Leads Hop x y
turned Hop x y = (turn (λ a b. Hop b a) y x, turn Hop x y)
