-- No freedom: two things that equal the same definition are equal. Each crate with public functions has a file Fixed.antt that says so of their contracts, as
-- the compiler made them.
-- Assumes nothing.
use mathlib.Core.Path.{◌≡◌, sym, ◌∙◌}
use seplogic.Ra.Ura.{Ura}
use base.Logic.{ent}
use contract.Monad.{conj, conj_l, conj_r, fact, fact_i, fact_use}

-- THE LAW
pub fixed : {A : Type 0} {definition x y : A} → x ≡ definition → y ≡ definition → x ≡ y
fixed p q = p ∙ sym q

-- two facts that hold together
pub together : {M : Type 1} (𝓤 : Ura M) (φ ψ χ : Type 0) → (φ → ψ → χ) → ent 𝓤 (conj 𝓤 (fact 𝓤 φ) (fact 𝓤 ψ)) (fact 𝓤 χ)
together 𝓤 φ ψ χ k =
    fact_use 𝓤 φ (conj_l 𝓤 (fact 𝓤 φ) (fact 𝓤 ψ))
    (λ p. fact_use 𝓤 ψ (conj_r 𝓤 (fact 𝓤 φ) (fact 𝓤 ψ)) (λ q. fact_i 𝓤 χ (conj 𝓤 (fact 𝓤 φ) (fact 𝓤 ψ)) (k p q)))
