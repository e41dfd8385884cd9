-- The numbers of the messages to a node.
use Rattle.std.proofs.Common.{◌≡◌, ℕ, suc, ◌+◌, Bool, true, false, cond, List, [], ◌∷◌, ◌++◌, length, refl, ap, ◌∙◌, arith}
use Rattle.rc_model.specs.Model.{Message, NodeName, same_node, node_of}
use Rattle.rc_wire.specs.Numbers.{numbers_from}

-- one message more at the end
pub last_number : ℕ → NodeName → List Message → Message → List ℕ
last_number first name messages message = cond (same_node (node_of message.to) name) ((first + length messages) ∷ []) []

cond-append : (b : Bool) (x : ℕ) (xs ys : List ℕ) → cond b (x ∷ (xs ++ ys)) (xs ++ ys) ≡ cond b (x ∷ xs) xs ++ ys
cond-append true x xs ys = refl
cond-append false x xs ys = refl

pub numbers-push : (first : ℕ) (name : NodeName) (messages : List Message) (message : Message) →
    numbers_from first name (messages ++ message ∷ []) ≡ numbers_from first name messages ++ last_number first name messages message
unfolding last_number
numbers-push first name [] message =
    let same : first ≡ first + 0 = omega arith in
    ap (λ n. cond (same_node (node_of message.to) name) (n ∷ []) []) same
numbers-push first name (one ∷ messages) message =
    let same : (first + 1) + length messages ≡ first + suc (length messages) = omega arith in
    let rest = numbers-push (first + 1) name messages message in
    ap (λ l. cond (same_node (node_of one.to) name) (first ∷ l) l) rest
    ∙ (cond-append (same_node (node_of one.to) name) first (numbers_from (first + 1) name messages)
    (last_number (first + 1) name messages message)
    ∙ ap (λ n. cond (same_node (node_of one.to) name) (first ∷ numbers_from (first + 1) name messages)
    (numbers_from (first + 1) name messages)
    ++ cond (same_node (node_of message.to) name) (n ∷ []) []) same)

-- where a last message goes to the node, and where it doesn't
pub numbers-own : (first : ℕ) (name : NodeName) (messages : List Message) (message : Message) → same_node (node_of message.to) name ≡ true →
    numbers_from first name (messages ++ message ∷ []) ≡ numbers_from first name messages ++ (first + length messages) ∷ []
unfolding last_number
numbers-own first name messages message own =
    numbers-push first name messages message
    ∙ ap (λ b. numbers_from first name messages ++ cond b ((first + length messages) ∷ []) []) own

append-none : (xs : List ℕ) → xs ++ [] ≡ xs
append-none [] = refl
append-none (x ∷ xs) = ap (λ l. x ∷ l) (append-none xs)

pub numbers-other : (first : ℕ) (name : NodeName) (messages : List Message) (message : Message) →
    same_node (node_of message.to) name ≡ false →
    numbers_from first name (messages ++ message ∷ []) ≡ numbers_from first name messages
unfolding last_number
numbers-other first name messages message other =
    numbers-push first name messages message
    ∙ (ap (λ b. numbers_from first name messages ++ cond b ((first + length messages) ∷ []) []) other
    ∙ append-none (numbers_from first name messages))
