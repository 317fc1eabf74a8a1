pub mod LowOnes
