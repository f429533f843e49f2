-- What a caller shows to a function that requires nothing. Assumes nothing.
pub asks : {A B : Type 0} → A → B → Unit {0}
asks a b = tt
