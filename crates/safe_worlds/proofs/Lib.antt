pub mod EffectsReach
pub mod StepsReach
pub mod CutLemmas
pub mod SafeWorlds
pub mod RecursiveWorld
pub mod StrangerWorld
pub mod StrengthenedWorlds
